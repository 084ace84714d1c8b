-- The least fault, from the last cell to the first.
use Rattle.std.specs.Prelude.{◌≡◌, ℕ, suc, ◌<◌, List, ◌∷◌, length, slice_index_or, Option, Some, filter_map, flat_map}
use Rattle.std.proofs.Common.{drop, refl, sym, ap, ◌∙◌}
use Rattle.std.proofs.Math.Seq.{drop-cons}
use Rattle.meaning.specs.declared.answer.RowFault.{RowFault}
use Rattle.meaning.specs.declared.answer.Body.TheVariants.{Groups, Fault}
use Rattle.meaning.specs.declared.answer.Cell.TheVariants.{Nothing, One, Conflict}
use Rattle.meaning.specs.declared.plan.Plan.{Plan}
use Rattle.meaning.specs.Said.{Cell}
use Rattle.meaning.specs.Order.{lesser}
use Rattle.meaning.specs.Judge.{fault_cmp}
use Rattle.meaning.specs.Group.{merged_groups}
use Rattle.meaning.specs.Answer.{body_of, groups_of, combined}
use Rattle.meaning.specs.Gather.{body_in}
use Rattle.gathering.specs.Faults.{fault_in, least_fault}

pub first_cell : (cell : Cell) (cells : List Cell) → least_fault (cell ∷ cells) ≡ lesser fault_cmp (fault_in cell) (least_fault cells)
first_cell Nothing cells = refl
first_cell (One (Groups gs)) cells = refl
first_cell (One (Fault f)) cells = refl
first_cell Conflict cells = refl

-- one cell more, before those that were seen
pub one_before : (cells : List Cell) (k : ℕ) (d : Cell) (least : Option RowFault) → k < length cells → least ≡ least_fault (drop (suc k) cells)
    → lesser fault_cmp (fault_in (slice_index_or cells k d)) least ≡ least_fault (drop k cells)
one_before cells k d least below so_far =
    ap (lesser fault_cmp (fault_in (slice_index_or cells k d))) so_far ∙ sym (first_cell (slice_index_or cells k d) (drop (suc k) cells)) ∙ ap least_fault (sym (drop-cons cells k d below))

-- a fault comes before all groups
pub combined-fault : (plan : Plan) (cells : List Cell) (f : RowFault) → least_fault cells ≡ Some f → combined plan (filter_map body_in cells) ≡ Fault f
combined-fault plan cells f e = ap (λ (o : Option RowFault). body_of o (merged_groups plan (flat_map groups_of (filter_map body_in cells)))) e
