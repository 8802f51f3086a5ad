-- What a reader does with what the tokens give.
use Rattle.std.proofs.Common.{◌≡◌, ℕ, ◌+◌, true, false, List, [], ◌++◌, length, Option, Some, None, Ok, Err, refl, sym, ap, subst, ◌∙◌, arith}
use Rattle.oct_text.specs.Rest.{Left, Token, next_token, token_at_front, end_of, Rest, continued, past_blanks, MayCome, after_line, is_blank}
use Rattle.std.proofs.lemmas.List.{append-nil, length-drop}
use Rattle.std.proofs.lemmas.List.Sums.{prefix_len-le-length}
use Rattle.std.specs.List.{prefix_len}
use Rattle.oct_text.specs.Taken.{Takes, Waits, IsAtEnd, HasNoLine, HasNothing}
use Rattle.oct_text.specs.Line.{IsLine, NoLine, line_front, TakesLine, HasLong, HasNoMore}
use Rattle.oct_text.proofs.TokenLemmas.{next_token-past, end_of-past}
use Rattle.vtk_legacy.specs.declared.fault.MeshKind.TheVariants as kinds
use Rattle.vtk_legacy.specs.declared.fault.MeshFault.{MeshFault}
use Rattle.vtk_legacy.specs.declared.gathered.CellForm.{CellForm}
use Rattle.vtk_legacy.specs.declared.stage.Block.{Block}
use Rattle.vtk_legacy.specs.declared.stage.Block.TheVariants as block
use Rattle.vtk_legacy.specs.declared.stage.Section.{Section}
use Rattle.vtk_legacy.specs.declared.stage.Section.TheVariants as section
use Rattle.vtk_legacy.specs.declared.stage.Stage.{Stage}
use Rattle.vtk_legacy.specs.declared.stage.Stage.TheVariants as stage
use Rattle.vtk_legacy.specs.MeshText.{fault, ◌>>=◌, blocks, blocks_within, version_front, places, counted_rows, indices, offsets, skip, after_blank_line, metadata}
use Rattle.vtk_legacy.specs.Outcome.{IsFault}
use Rattle.vtk_legacy.specs.Kept.{Parts, with_form, types_left}
use Rattle.vtk_legacy.specs.Machine.{Outcome, goes_on, taking, WantsToken, Moves, Keeps, IsSpent, FaultsWith, SameText, at_end, truncated, in_block, in_section, in_between, in_values, in_type, in_tuples, in_components, in_name, in_field_count, in_field_name, in_places, in_y, in_z, in_point_type, in_point_count, in_points, in_cells, in_cell_count, in_cell_size, in_heads, in_row, in_offset_count, in_number_count, in_maybe_offsets, in_offset_word, in_offset_type, in_offsets, in_connectivity, in_number_type, in_filling, in_type_word, in_type_count, in_types, in_attributes, in_grid, in_dataset, in_format, in_title, in_version}
use Rattle.vtk_legacy.proofs.StepLemmas.{IsFault-then}
use Rattle.vtk_legacy.proofs.TokenStep.{goes_on-token}

-- ---- where no token is left

block-end : (b : Block) (s : Section) (got : Parts) (l : Left) → next_token l ≡ None → (in_block b l >>= in_section s got) ≡ truncated (end_of l)
unfolding in_values in_type in_tuples in_components in_name in_field_count in_field_name skip
block-end block.Name s got l e = rw e refl
block-end block.Count s got l e = rw e refl
block-end (block.ArrayName n) s got l e = rw e refl
block-end (block.ArrayComponents n) s got l e = rw e refl
block-end (block.ArrayTuples n c) s got l e = rw e refl
block-end (block.ArrayType n v) s got l e = rw e refl
block-end (block.ArrayValues n v) s got l e = rw e refl

blocks-end : (l : Left) → next_token l ≡ None → blocks l ≡ Ok l
unfolding blocks_within
blocks-end l e = rw e refl

between-end : (s : Section) (got : Parts) (l : Left) → next_token l ≡ None → in_between s got l ≡ at_end (stage.Between s) got (end_of l)
unfolding in_between in_section in_points in_cells in_connectivity in_type_word in_attributes
between-end section.Points got l e = rw (blocks-end l e, e) refl
between-end section.Cells got l e = rw (blocks-end l e, e) refl
between-end (section.Connectivity b) got l e = rw (blocks-end l e, e) refl
between-end section.Types got l e = rw (blocks-end l e, e) refl
between-end section.Attributes got l e = rw (blocks-end l e, e) refl

maybe-end : (got : Parts) (l : Left) → next_token l ≡ None → in_maybe_offsets got l ≡ truncated (end_of l)
unfolding in_maybe_offsets in_between in_section
maybe-end got l e = rw e (between-end section.Types got l e)

pub goes_on-end : (s : Stage) (got : Parts) (l : Left) → WantsToken s → next_token l ≡ None → goes_on s got l ≡ at_end s got (end_of l)
unfolding goes_on in_format in_dataset in_grid in_point_count in_point_type in_places places in_y in_z in_cell_count in_cell_size in_heads counted_rows in_row indices in_offset_count in_number_count in_offset_word in_offset_type in_offsets offsets in_number_type in_filling in_type_count in_types types_left
goes_on-end stage.Format got l w e = rw e refl
goes_on-end stage.Dataset got l w e = rw e refl
goes_on-end stage.Grid got l w e = rw e refl
goes_on-end (stage.Between section.Points) got l w e = between-end section.Points got l e
goes_on-end (stage.Between section.Cells) got l w e = between-end section.Cells got l e
goes_on-end (stage.Between (section.Connectivity b)) got l w e = between-end (section.Connectivity b) got l e
goes_on-end (stage.Between section.Types) got l w e = between-end section.Types got l e
goes_on-end (stage.Between section.Attributes) got l w e = between-end section.Attributes got l e
goes_on-end (stage.Within s b) got l w e = block-end b s got l e
goes_on-end stage.Version got l w e = absurd w
goes_on-end stage.Title got l w e = absurd w
goes_on-end (stage.MetadataLine s) got l w e = absurd w
goes_on-end (stage.MetadataLines s) got l w e = absurd w
goes_on-end stage.PointCount got l w e = rw e refl
goes_on-end (stage.PointType n) got l w e = rw e refl
goes_on-end (stage.PointX n) got l w e = rw e refl
goes_on-end (stage.PointY n x) got l w e = rw e refl
goes_on-end (stage.PointZ n x y) got l w e = rw e refl
goes_on-end stage.CellCount got l w e = rw e refl
goes_on-end (stage.CellSize m) got l w e = rw e refl
goes_on-end (stage.CellHead m room place) got l w e = rw e refl
goes_on-end (stage.CellPoint row k m room place) got l w e = rw e refl
goes_on-end stage.OffsetCount got l w e = rw e refl
goes_on-end (stage.NumberCount a) got l w e = rw e refl
goes_on-end stage.MaybeOffsets got l w e = maybe-end got l e
goes_on-end (stage.OffsetWord a b) got l w e = rw e refl
goes_on-end (stage.OffsetType a b) got l w e = rw e refl
goes_on-end (stage.Offset k first before b) got l w e = rw e refl
goes_on-end (stage.NumberType b) got l w e = rw e refl
goes_on-end (stage.Number k f) got l w e = rw e refl
goes_on-end stage.TypeCount got l w e = rw e refl
goes_on-end (stage.CellType k) got l w e = rw e refl
goes_on-end stage.Passed got l w e = absurd w

-- ---- passing blanks

same_front : (s : Stage) (got : Parts) (a b : Left) (o : Option (Token × Left)) → WantsToken s → next_token a ≡ o → next_token b ≡ o → end_of a ≡ end_of b → goes_on s got a ≡ goes_on s got b
same_front s got a b None w e f g = goes_on-end s got a w e ∙ ap (at_end s got) g ∙ sym (goes_on-end s got b w f)
same_front s got a b (Some t) w e f g = goes_on-token s got a t w e ∙ sym (goes_on-token s got b t w f)

pub goes_on-past : (s : Stage) (got : Parts) (r : Rest) (more : List ℕ) → WantsToken s → goes_on s got (continued r more) ≡ goes_on s got (continued (past_blanks r) more)
goes_on-past s got r more w = same_front s got (continued r more) (continued (past_blanks r) more) (next_token (continued r more)) w refl (next_token-past r more) (sym (end_of-past r more))

-- ---- the answers of the tokens

pub took : (s new : Stage) (got got' : Parts) (r r' : Rest) (t : Token) → WantsToken s → Takes r t r' → Moves (λ after. taking s got (t, after)) (Ok new) got' → Keeps s got r new got' r'
took s new got got' r r' t w takes moves more none = goes_on-token s got (continued r more) (t, continued r' more) w (takes.again more none) ∙ moves (continued r' more)

pub failed : (s : Stage) (got : Parts) (r r' : Rest) (t : Token) (e : MeshFault) → WantsToken s → Takes r t r' → ((after : Left) → IsFault e (taking s got (t, after))) → FaultsWith s got r e
failed s got r r' t e w takes moves more none =
    subst (λ (x : Outcome). IsFault e x) (sym (goes_on-token s got (continued r more) (t, continued r' more) w (takes.again more none))) (moves (continued r' more))

passed_to : (s : Stage) (got : Parts) (r r' : Rest) → WantsToken s → r' ≡ past_blanks r → Keeps s got r s got r'
passed_to s got r r' w e more none = subst (λ (x : Rest). goes_on s got (continued r more) ≡ goes_on s got (continued x more)) (sym e) (goes_on-past s got r more w)

apart : (r r' : Rest) → r' ≡ past_blanks r → r.ended ≡ false → r'.ended ≡ true → ⊥
apart r r' e f g = let same : r'.ended ≡ r.ended = ap (λ (x : Rest). x.ended) e in cc

same_text : (r r' : Rest) → r' ≡ past_blanks r → SameText r r'
same_text r r' e =
    let len = length-drop (prefix_len is_blank r.bytes) r.bytes in
    let le = prefix_len-le-length is_blank r.bytes in
    record {
      ended = ap (λ (x : Rest). x.ended) e;
      end = ap (λ (x : Rest). x.place + length x.bytes) e ∙ omega (arith, len, le);
    }

-- ---- where nothing is left

abbrev nothing_at : ℕ → Left
nothing_at place = record { place = place; bytes = [] }

none_there : (place : ℕ) → next_token (nothing_at place) ≡ None
unfolding token_at_front
none_there place = refl

same_end : (place : ℕ) → end_of (nothing_at place) ≡ place
same_end place = omega arith

want_end : (s : Stage) (got : Parts) (place : ℕ) → WantsToken s → goes_on s got (nothing_at place) ≡ at_end s got place
want_end s got place w = goes_on-end s got (nothing_at place) w (none_there place) ∙ ap (at_end s got) (same_end place)

metadata_end : (s : Section) (got : Parts) (place : ℕ) → in_between s got (metadata (nothing_at place)) ≡ at_end (stage.Between s) got place
metadata_end s got place = between-end s got (metadata (nothing_at place)) (none_there (place + 0 + 0)) ∙ ap (at_end (stage.Between s) got) (omega arith)

lines_end : (s : Section) (got : Parts) (place : ℕ) → in_between s got (after_blank_line (nothing_at place)) ≡ at_end (stage.Between s) got place
lines_end s got place = between-end s got (after_blank_line (nothing_at place)) (none_there (place + 0)) ∙ ap (at_end (stage.Between s) got) (omega arith)

version_end : (got : Parts) (place : ℕ) → in_version got (nothing_at place) ≡ truncated place
unfolding in_version line_front
version_end got place = ap truncated (same_end place)

title_end : (got : Parts) (place : ℕ) → in_title got (nothing_at place) ≡ truncated place
unfolding in_title line_front
title_end got place = ap truncated (same_end place)

first_line_end : (s : Section) (got : Parts) (place : ℕ) → at_end (stage.Between s) got place ≡ at_end (stage.MetadataLine s) got place
first_line_end section.Points got place = refl
first_line_end section.Cells got place = refl
first_line_end (section.Connectivity b) got place = refl
first_line_end section.Types got place = refl
first_line_end section.Attributes got place = refl

other_line_end : (s : Section) (got : Parts) (place : ℕ) → at_end (stage.Between s) got place ≡ at_end (stage.MetadataLines s) got place
other_line_end section.Points got place = refl
other_line_end section.Cells got place = refl
other_line_end (section.Connectivity b) got place = refl
other_line_end section.Types got place = refl
other_line_end section.Attributes got place = refl

spent_at : (s : Stage) (got : Parts) (place : ℕ) → goes_on s got (nothing_at place) ≡ at_end s got place
unfolding goes_on
spent_at stage.Version got place = version_end got place
spent_at stage.Title got place = title_end got place
spent_at (stage.MetadataLine s) got place = metadata_end s got place ∙ first_line_end s got place
spent_at (stage.MetadataLines s) got place = lines_end s got place ∙ other_line_end s got place
spent_at stage.Passed got place = refl
spent_at stage.Format got place = want_end stage.Format got place tt
spent_at stage.Dataset got place = want_end stage.Dataset got place tt
spent_at stage.Grid got place = want_end stage.Grid got place tt
spent_at (stage.Between s) got place = want_end (stage.Between s) got place tt
spent_at (stage.Within s b) got place = want_end (stage.Within s b) got place tt
spent_at stage.PointCount got place = want_end stage.PointCount got place tt
spent_at (stage.PointType n) got place = want_end (stage.PointType n) got place tt
spent_at (stage.PointX n) got place = want_end (stage.PointX n) got place tt
spent_at (stage.PointY n x) got place = want_end (stage.PointY n x) got place tt
spent_at (stage.PointZ n x y) got place = want_end (stage.PointZ n x y) got place tt
spent_at stage.CellCount got place = want_end stage.CellCount got place tt
spent_at (stage.CellSize m) got place = want_end (stage.CellSize m) got place tt
spent_at (stage.CellHead m room at) got place = want_end (stage.CellHead m room at) got place tt
spent_at (stage.CellPoint row k m room at) got place = want_end (stage.CellPoint row k m room at) got place tt
spent_at stage.OffsetCount got place = want_end stage.OffsetCount got place tt
spent_at (stage.NumberCount a) got place = want_end (stage.NumberCount a) got place tt
spent_at stage.MaybeOffsets got place = want_end stage.MaybeOffsets got place tt
spent_at (stage.OffsetWord a b) got place = want_end (stage.OffsetWord a b) got place tt
spent_at (stage.OffsetType a b) got place = want_end (stage.OffsetType a b) got place tt
spent_at (stage.Offset k first before b) got place = want_end (stage.Offset k first before b) got place tt
spent_at (stage.NumberType b) got place = want_end (stage.NumberType b) got place tt
spent_at (stage.Number k f) got place = want_end (stage.Number k f) got place tt
spent_at stage.TypeCount got place = want_end stage.TypeCount got place tt
spent_at (stage.CellType k) got place = want_end (stage.CellType k) got place tt

spent : (s : Stage) (got : Parts) (l : Left) → l.bytes ≡ [] → goes_on s got l ≡ at_end s got l.place
spent s got l e = ap (λ (bytes : List ℕ). goes_on s got (record { place = l.place; bytes = bytes })) e ∙ spent_at s got l.place

-- nothing is left
pub spent_rest : (s : Stage) (got : Parts) (r : Rest) → r.bytes ≡ [] → IsSpent s got r
spent_rest s got r nothing e =
    let none : r.bytes ++ [] ≡ [] = append-nil r.bytes ∙ nothing in
    let place : r.place ≡ r.place + length r.bytes = omega (arith, ap length nothing) in
    spent s got (continued r []) none ∙ ap (at_end s got) place

pub waits : (s : Stage) (got : Parts) (r r' : Rest) → WantsToken s → Waits r r' → Keeps s got r s got r' × IsSpent s got r' × SameText r r'
waits s got r r' w h = (passed_to s got r r' w h.left, (λ e. absurd (apart r r' h.left h.unended e)), same_text r r' h.left)

pub is_at_end : (s : Stage) (got : Parts) (r r' : Rest) (place : ℕ) → WantsToken s → IsAtEnd r place r' → Keeps s got r s got r' × IsSpent s got r' × SameText r r'
is_at_end s got r r' place w h = (passed_to s got r r' w h.left, spent_rest s got r' h.nothing, same_text r r' h.left)

-- ---- lines

kept_same : (s : Stage) (got : Parts) (r r' : Rest) → r' ≡ r → Keeps s got r s got r'
kept_same s got r r' e more may = ap (λ (x : Rest). goes_on s got (continued x more)) (sym e)

text_same : (r r' : Rest) → r' ≡ r → SameText r r'
text_same r r' e = record { ended = ap (λ (x : Rest). x.ended) e; end = ap (λ (x : Rest). x.place + length x.bytes) e }

open_still : (s : Stage) (got : Parts) (r r' : Rest) → r' ≡ r → r.ended ≡ false → IsSpent s got r'
open_still s got r r' e f g = absurd (let same : r'.ended ≡ r.ended = ap (λ (x : Rest). x.ended) e in cc)

pub no_line : (s : Stage) (got : Parts) (r r' : Rest) → HasNoLine r r' → Keeps s got r s got r' × IsSpent s got r' × SameText r r'
no_line s got r r' h = (kept_same s got r r' h.same, open_still s got r r' h.same h.unended, text_same r r' h.same)

pub no_more_lines : (s : Stage) (got : Parts) (r r' : Rest) → HasNothing r r' → Keeps s got r s got r' × IsSpent s got r' × SameText r r'
no_more_lines s got r r' h = (kept_same s got r r' h.same, spent_rest s got r' (ap (λ (x : Rest). x.bytes) h.same ∙ h.nothing), text_same r r' h.same)

title_none : (got : Parts) (r : Rest) → line_front 256 r.bytes ≡ NoLine → IsSpent stage.Title got r
unfolding goes_on in_title
title_none got r none e =
    let still : line_front 256 (r.bytes ++ []) ≡ NoLine = ap (line_front 256) (append-nil r.bytes) ∙ none in
    rw (still, append-nil r.bytes) refl

version_none : (got : Parts) (r : Rest) → line_front 256 r.bytes ≡ NoLine → IsSpent stage.Version got r
unfolding goes_on in_version
version_none got r none e =
    let still : line_front 256 (r.bytes ++ []) ≡ NoLine = ap (line_front 256) (append-nil r.bytes) ∙ none in
    rw (still, append-nil r.bytes) refl

pub title_ends : (got : Parts) (r r' : Rest) (place : ℕ) → HasNoMore 256 r place r' → Keeps stage.Title got r stage.Title got r' × IsSpent stage.Title got r' × SameText r r'
title_ends got r r' place h = (kept_same _ got r r' h.same, title_none got r' (ap (λ (x : Rest). line_front 256 x.bytes) h.same ∙ h.none), text_same r r' h.same)

pub version_ends : (got : Parts) (r r' : Rest) (place : ℕ) → HasNoMore 256 r place r' → Keeps stage.Version got r stage.Version got r' × IsSpent stage.Version got r' × SameText r r'
version_ends got r r' place h = (kept_same _ got r r' h.same, version_none got r' (ap (λ (x : Rest). line_front 256 x.bytes) h.same ∙ h.none), text_same r r' h.same)

pub title_taken : (got : Parts) (r r' : Rest) (place : ℕ) (text : List ℕ) → TakesLine 256 r place text r' → Keeps stage.Title got r stage.Format got r'
unfolding goes_on in_title
title_taken got r r' place text h more may = rw (h.line more may, h.behind more may) refl

pub title_long : (got : Parts) (r r' : Rest) (place : ℕ) → HasLong 256 r place r' → (more : List ℕ) → MayCome r more → goes_on stage.Title got (continued r more) ≡ Err (fault kinds.Title place)
unfolding goes_on in_title
title_long got r r' place h more may = rw (h.long more may, h.place) refl

-- what a version line says, where it is whole
pub version_taken : (got : Parts) (r r' : Rest) (place : ℕ) (text : List ℕ) (f : CellForm) → TakesLine 256 r place text r' → ((l : Left) → version_front l (IsLine text) ≡ Ok (f, after_line l)) → Keeps stage.Version got r stage.Title (with_form f got) r'
unfolding goes_on in_version
version_taken got r r' place text f h good more may = rw (h.line more may, good (continued r more), h.behind more may) refl

pub version_bad : (got : Parts) (r r' : Rest) (place : ℕ) (text : List ℕ) (e : MeshFault) → TakesLine 256 r place text r' → ((l : Left) → IsFault e (version_front l (IsLine text))) → FaultsWith stage.Version got r e
unfolding goes_on in_version
version_bad got r r' place text e h bad more may = rw (h.line more may) (IsFault-then e _ _ (bad (continued r more)))

pub version_long : (got : Parts) (r r' : Rest) (place : ℕ) → HasLong 256 r place r' → (more : List ℕ) → MayCome r more → goes_on stage.Version got (continued r more) ≡ Err (fault kinds.Magic 0)
unfolding goes_on in_version
version_long got r r' place h more may = rw (h.long more may) refl

-- ---- the end

pub passed_spent : (got : Parts) (r : Rest) → IsSpent stage.Passed got r
unfolding goes_on
passed_spent got r e = refl

-- a run over a text that has ended
pub closed : (s new : Stage) (got got' : Parts) (r0 r r' : Rest) (place : ℕ) → r ≡ record r0 { ended = true } → Keeps s got r new got' r' × IsSpent new got' r' × SameText r r' → place ≡ r'.place + length r'.bytes
    → goes_on s got (continued r0 []) ≡ at_end new got' place
closed s new got got' r0 r r' place r-is runs place-is =
    let ended : r.ended ≡ true = ap (λ (x : Rest). x.ended) r-is in
    ap (λ (x : Rest). goes_on s got (continued x [])) (sym r-is) ∙ runs.0 [] (λ _. refl) ∙ runs.1 (runs.2.ended ∙ ended) ∙ ap (at_end new got') (sym place-is)

pub passed_all : (got : Parts) (r : Rest) → Keeps stage.Passed got r stage.Passed got r × IsSpent stage.Passed got r × SameText r r
passed_all got r = ((λ more may. refl), passed_spent got r, record { ended = refl; end = refl })

pub line_text : (most : ℕ) (r : Rest) (place : ℕ) (text : List ℕ) (r' : Rest) → TakesLine most r place text r' → SameText r r'
line_text most r place text r' h = record { ended = h.ended; end = h.end }

pub same_long : (most : ℕ) (r : Rest) (place : ℕ) (r' : Rest) → HasLong most r place r' → SameText r r'
same_long most r place r' h = text_same r r' h.same
