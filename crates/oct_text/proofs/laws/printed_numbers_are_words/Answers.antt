use Rattle.oct_text.proofs.Written.{is_word-decimal, is_word-signed_decimal}
use Rattle.oct_text.proofs.laws.printed_numbers_are_words.Goals as goal

pub returns : goal.returns
returns c = record { count = is_word-decimal; signed = is_word-signed_decimal }
