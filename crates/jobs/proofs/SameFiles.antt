-- Files with the same members say the same.
use Rattle.std.proofs.Common.{◌≡◌, ℕ, zero, suc, List, [], ◌∷◌, refl, sym, ap, ◌∙◌, arith}
use Rattle.std.specs.Prelude.{Contains}
use Rattle.meaning.specs.Cut.{Cut}
use Rattle.meaning.specs.Gather.{join_cells}
use Rattle.meaning.specs.Print.{report_text}
use Rattle.meaning.specs.Said.{Cell}
use Rattle.meaning_laws.proofs.Cells.{join_cells-assoc, join_cells-comm, join_cells_same}
use Rattle.partial_codec.specs.Job.{JobSpec}
use Rattle.partial_codec.specs.State.{state_bytes}
use Rattle.jobs.specs.Gathering.{Taking, cell_among, cell_in, gathered, shown}
use Rattle.jobs.specs.Laws.{SameTakings, SaySame}
use Rattle.jobs.proofs.Together.{cell_gathered, gathered_from, gathered_length}

-- what a file among them says changes nothing
pub said_already : (k : ℕ) (ts : List Taking) (t : Taking) → Contains ts t → join_cells (cell_in k t) (cell_among k ts) ≡ cell_among k ts
said_already k [] t (i, below, is) = absurd (omega (arith, below))
said_already k (x ∷ ts) t (zero, below, is) =
    ap (λ (y : Taking). join_cells (cell_in k y) (join_cells (cell_in k x) (cell_among k ts))) (sym is)
    ∙ sym (join_cells-assoc (cell_in k x) (cell_in k x) (cell_among k ts))
    ∙ ap (λ c. join_cells c (cell_among k ts)) (join_cells_same (cell_in k x))
said_already k (x ∷ ts) t (suc i, below, is) =
    sym (join_cells-assoc (cell_in k t) (cell_in k x) (cell_among k ts))
    ∙ ap (λ c. join_cells c (cell_among k ts)) (join_cells-comm (cell_in k t) (cell_in k x))
    ∙ join_cells-assoc (cell_in k x) (cell_in k t) (cell_among k ts)
    ∙ ap (join_cells (cell_in k x)) (said_already k ts t (i, omega (arith, below), is))

-- so do files that are all among them
all_said : (k : ℕ) (xs ts : List Taking) → ((t : Taking) → Contains xs t → Contains ts t) → join_cells (cell_among k xs) (cell_among k ts) ≡ cell_among k ts
all_said k [] ts within = refl
all_said k (x ∷ xs) ts within =
    join_cells-assoc (cell_in k x) (cell_among k xs) (cell_among k ts)
    ∙ ap (join_cells (cell_in k x)) (all_said k xs ts (λ t has. within t (suc has.0, omega (arith, has.1), has.2)))
    ∙ said_already k ts x (within x (0, omega arith, refl))

same_cell : (k : ℕ) (xs ys : List Taking) → SameTakings xs ys → cell_among k xs ≡ cell_among k ys
same_cell k xs ys same =
    sym (all_said k ys xs (λ t has. (same t).1 has)) ∙ join_cells-comm (cell_among k ys) (cell_among k xs)
    ∙ all_said k xs ys (λ t has. (same t).0 has)

pub same_gathered : (cut : Cut) (xs ys : List Taking) → SameTakings xs ys → gathered cut xs ≡ gathered cut ys
same_gathered cut xs ys same =
    gathered_from cut (gathered cut xs) ys (gathered_length cut xs) (λ k within. cell_gathered cut xs k within ∙ same_cell k xs ys same)

pub say_same : (job : JobSpec) (xs ys : List Taking) → SameTakings xs ys → SaySame job xs ys
say_same job xs ys same =
    let states = same_gathered job.cut xs ys same in
    record {
      state = states;
      bytes = ap (λ (cells : List Cell). state_bytes job cells) states;
      print = λ asked. ap (λ (cells : List Cell). report_text job.plan (shown asked job.plan cells)) states;
    }
