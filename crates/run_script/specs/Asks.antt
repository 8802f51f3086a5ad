-- What items ask about, said without turns.
use Rattle.std.specs.Prelude.{ℕ, max, List, [], ◌∷◌, ◌++◌, map, flat_map}
use Rattle.mesh_base.specs.Place.{Area}
use Rattle.run_script.specs.declared.job.SessionTurn.{SessionTurn}
use Rattle.run_script.specs.declared.script.Item.{Item}
use Rattle.run_script.specs.declared.script.Item.TheVariants as item

-- the greatest wait among items, 0 where there is none
abbrev pub greatest_wait : List Item → ℕ
greatest_wait [] = 0
greatest_wait (item.Wait line step ∷ items) = max step (greatest_wait items)
greatest_wait (item.Ask area ∷ items) = greatest_wait items
greatest_wait (item.Hold ∷ items) = greatest_wait items
greatest_wait (item.Free ∷ items) = greatest_wait items

-- the boxes of these items in order, each with the greatest wait among all items before it, of which some came earlier
abbrev pub asks_after : List Item → List Item → List (ℕ × Area)
asks_after before [] = []
asks_after before (item.Wait line step ∷ items) = asks_after (before ++ item.Wait line step ∷ []) items
asks_after before (item.Ask area ∷ items) = (greatest_wait before, area)
    ∷ asks_after (before ++ item.Ask area ∷ []) items
asks_after before (item.Hold ∷ items) = asks_after (before ++ item.Hold ∷ []) items
asks_after before (item.Free ∷ items) = asks_after (before ++ item.Free ∷ []) items

abbrev pub asks_of : List Item → List (ℕ × Area)
asks_of items = asks_after [] items

-- the boxes of turns, one turn after the other, each with the need of its turn
abbrev pub boxes_of : List SessionTurn → List (ℕ × Area)
boxes_of turns = flat_map (λ t. map (λ area. (t.need, area)) t.areas) turns
