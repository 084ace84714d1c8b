-- Proofs of the goals of `load_tables` (`tables`).
use Rattle.std.proofs.Common.{◌≡◌, List, map, Ok, Err, refl, subst, sym}
use Rattle.std.specs.Prelude.{All}
use Rattle.std.specs.List.{AllZip}
use Rattle.meaning.specs.declared.plan.Join.{Join}
use Rattle.meaning.specs.Results.{all_ok}
use Rattle.planner.specs.DeclaredPlans.{IsDeclaredJoin}
use Rattle.coordinator.specs.Fragment.{IsJoinedFile}
use Rattle.coordinator.specs.Whole.{files_in, joined_csvs, joined_from}
use Rattle.coordinator.proofs.Runs.{loaded, dimension_refused}
use Rattle.coordinator.proofs.tables.load_tables.Goals as goal

pub returns-in-Ok-clause-loaded : goal.returns-in-Ok-clause-loaded
returns-in-Ok-clause-loaded c =
    let catalog = c.args.catalog.now in
    let files = files_in c.args.sources.csvs.now in
    let (csvs, found) = c.in_ok-check_csvs.ensures.found in
    let (dims, good, are) = c.in-Ok.ensures.files in
    loaded catalog files c.args.sources.cut.now c.args.plan.now c.in_ok-csv.csv.now csvs c.in_ok-fragments.fragments.items c.requires.catalog.fact c.in_ok-csv.ensures
    (subst (λ (joins : List Join). joined_csvs files joins ≡ Ok csvs) c.as_slice.ensures found) (c.in_ok-fragments.ensures.loaded c.in_ok-csv.csv.now refl) dims c.in-Ok.dims.items
    (subst (λ (joins : List Join). all_ok (map (joined_from catalog files) joins) ≡ Ok dims) c.as_slice-2.ensures good) are

pub returns-in-Err-clause-refused : goal.returns-in-Err-clause-refused
returns-in-Err-clause-refused c other =
    let catalog = c.args.catalog.now in
    let files = files_in c.args.sources.csvs.now in
    let (csvs, found) = c.in_ok-check_csvs.ensures.found in
    dimension_refused catalog files c.args.sources.cut.now c.args.plan.now c.in_ok-csv.csv.now csvs c.in_ok-fragments.fragments.items c.requires.catalog.fact c.in_ok-csv.ensures
    (subst (λ (joins : List Join). joined_csvs files joins ≡ Ok csvs) c.as_slice.ensures found) (c.in_ok-fragments.ensures.loaded c.in_ok-csv.csv.now refl) c.in-Err.e
    (subst (λ (joins : List Join). all_ok (map (joined_from catalog files) joins) ≡ Err c.in-Err.e) c.as_slice-2.ensures (c.in-Err.ensures.refused other))

pub joined_files-requires-clause-joins : goal.joined_files-requires-clause-joins
joined_files-requires-clause-joins c = subst (All (IsDeclaredJoin c.args.catalog.now)) (sym c.as_slice-2.ensures) c.requires.joins

pub returns-in-Ok-clause-joined : goal.returns-in-Ok-clause-joined
returns-in-Ok-clause-joined c = subst (λ (joins : List Join). AllZip (IsJoinedFile c.args.catalog.now) joins c.in-Ok.dims.items) c.as_slice-2.ensures c.in-Ok.ensures.joined
