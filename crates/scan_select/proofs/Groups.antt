-- Row groups that come one after the other, of an opened file and of a reader.
use Rattle.std.proofs.Common.{◌≡◌, ℕ, zero, suc, ◌+◌, ◌<◌, Bool, true, false, List, [], ◌∷◌, Option, Result, Ok, Err, get_or, length, drop, refl, ap, ◌∙◌, arith}
use Rattle.blocks.specs.Block.{Block}
use Rattle.fragment_file.specs.View.{rows_of}
use Rattle.fragment_file.specs.declared.fault.FileFault.{FileFault}
use Rattle.group_reader.specs.Reader.{GoesOn, MayCome, ReaderSpec}
use Rattle.group_reader.proofs.Turns.{came_before, still_ended}
use Rattle.scan_select.specs.FileGroups.{rows_of_all}
use Rattle.scan_select.specs.Groups.{GroupsGoOn}

rows_from : (groups : List (List Block)) (n : ℕ) → n < length groups → rows_of_all (drop n groups) ≡ rows_of (get_or groups n []) + rows_of_all (drop (suc n) groups)
rows_from [] n below = absurd (omega (arith, below))
rows_from (g ∷ groups) zero below = refl
rows_from (g ∷ groups) (suc n) below = rows_from groups n (omega (arith, below))

-- the rows of those that are to come, with one row group in front
pub rows_behind : (groups : List (List Block)) (n : ℕ) → n < length groups → rows_of_all (drop n groups) ≡ rows_of (get_or groups n []) + rows_of_all (drop (n + 1) groups)
rows_behind groups n below =
    let next : suc n ≡ n + 1 = omega arith in
    rows_from groups n below ∙ ap (λ (k : ℕ). rows_of (get_or groups n []) + rows_of_all (drop k groups)) next

-- a reader's step
pub read_on : {R : Type 0} (known : R → Option (List ℕ)) (old new : ReaderSpec R) (r : Result Bool FileFault) → GoesOn known old new r → GroupsGoOn (MayCome known old) (MayCome known new) new.current r
read_on known old new (Ok true) came = (came.group, came_before known old new came, came.stands)
read_on known old new (Ok false) came = (came.was, still_ended known old new came, came.none)
read_on known old new (Err e) told = told
