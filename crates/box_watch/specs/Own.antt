-- Where the answers of one session stand among all.
use Rattle.std.specs.Prelude.{ℕ, Bool, List, length, filter, map, slice_index_or, Option, None}
use Rattle.std.specs.List.{range_with_len}
use Rattle.mesh_base.specs.declared.answer.Answer.{Answer}
use Rattle.step_registry.specs.Lines.{of_session}
use Rattle.box_watch.specs.declared.watch.Watch.{Watch}
use Rattle.box_watch.specs.Watches.{answer_at, watch_since}

-- the answer at this place is of the session
abbrev pub is_own : ℕ → List Answer → ℕ → Bool
is_own s answers i = of_session s (answer_at answers i)

-- the places of the session's answers among the first n
abbrev pub own_places : ℕ → List Answer → ℕ → List ℕ
own_places s answers n = filter (is_own s answers) (range_with_len 0 n)

-- the session's answers
abbrev pub own_answers : ℕ → List Answer → List Answer
own_answers s answers = filter (of_session s) answers

-- the box before box q, by a list of them
abbrev pub prior_at : List (Option ℕ) → ℕ → Option ℕ
prior_at priors q = slice_index_or priors q None

-- the watches of a session, where each box was asked before by this list
abbrev pub watches_since : ℕ → List Answer → List (Option ℕ) → List Watch
watches_since s answers priors = map (λ q. watch_since s answers q (prior_at priors q))
    (range_with_len 0 (length priors))
