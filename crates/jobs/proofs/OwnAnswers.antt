-- What is written for a fragment is its own answer, where the folder holds its files.
use Rattle.std.specs.Prelude.{ℕ, List, [], ◌∷◌, Option}
use Rattle.std.proofs.Common.{sym, subst}
use Rattle.meaning.specs.Order.{Row}
use Rattle.meaning.specs.declared.plan.Join.{Join}
use Rattle.partial_codec.specs.Answer.{Spells}
use Rattle.job_files.specs.RowFiles.{AreFilesOfTables, IsFileOfRows, rows_of_fragment}
use Rattle.worker.proofs.OwnAnswers.{own_answer}
use Rattle.folders.specs.Each.{AreEach}
use Rattle.folders.specs.Folder.{AreHeld, Holds}
use Rattle.command_line.specs.declared.commands.WorkCommand.{WorkCommand}
use Rattle.jobs.specs.Working.{HoldsDimension, HoldsRows, IsDimensionOf, IsOwnSpelled, IsSpelled}

-- the bytes that were read are a file of the rows that are held
read_held : (held : Option (List ℕ)) (bytes : List ℕ) (rows : List Row) → AreHeld held bytes → HoldsRows held rows → IsFileOfRows rows bytes
read_held held bytes rows are has = subst (IsFileOfRows rows) (sym (subst (λ (h : Option (List ℕ)). AreHeld h bytes) has.known are)) has.is_file

read_dims : (holds : Holds) (folder : List ℕ) (joins : List Join) (dims : List (List ℕ)) (tables : List (List Row)) → AreEach (IsDimensionOf holds folder) joins dims
    → AreEach (HoldsDimension holds folder) joins tables → AreFilesOfTables tables dims
read_dims holds folder [] [] [] are have = tt
read_dims holds folder [] [] (t ∷ tables) are have = absurd have
read_dims holds folder [] (d ∷ dims) tables are have = absurd are
read_dims holds folder (j ∷ joins) [] tables are have = absurd are
read_dims holds folder (j ∷ joins) (d ∷ dims) [] are have = absurd have
read_dims holds folder (j ∷ joins) (d ∷ dims) (t ∷ tables) are have = (read_held _ d t are.0 have.0, read_dims holds folder joins dims tables are.1 have.1)

pub own_spelled : (holds : Holds) (command : WorkCommand) (rows : List Row) (tables : List (List Row)) (bytes : List ℕ) → IsSpelled holds command bytes → IsOwnSpelled holds command rows tables bytes
own_spelled holds command rows tables bytes is = record {
  job = is.job;
  is_job = is.is_job;
  is_own = λ held.
      let files = is.answer.files in
      let answer = is.answer.answered in
      let fragment = read_held _ is.answer.fragment (rows_of_fragment is.job.cut command.fragment rows) files.fragment_held held.fragment in
      let dims = read_dims holds command.folder is.job.plan.joins is.answer.dims tables files.dims_held held.dims in
      subst (Spells is.job bytes) (own_answer is.job command.fragment command.vector is.answer.fragment is.answer.dims answer.answer rows tables answer.meant fragment dims) answer.spelled;
}
