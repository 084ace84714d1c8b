-- Proofs of the goals of `next_header` (`fields`).
use Rattle.std.proofs.Common.{refl}
use Rattle.std.proofs.lemmas.Result.{err_from_is_err_and}
use Rattle.wire.specs.Reading.{number_at}
use Rattle.fragment_file.specs.Fault.{from_wire}
use Rattle.fragment_file.specs.FragmentReading.{header_at, name_at}
use Rattle.group_reader.specs.Fields.{counted_at, slice_at}
use Rattle.group_reader.proofs.HeaderSteps.{header_columns, header_load, header_slice, header_start, header_table}
use Rattle.group_reader.proofs.Telling.{begun, fails_at, finishes, step_on}
use Rattle.group_reader.proofs.fields.next_header.Goals as goal

pub returns-in_err-load-clause-read : goal.returns-in_err-load-clause-read
returns-in_err-load-clause-read g c =
    let p = err_from_is_err_and c.from_residual.result c.from_residual.ensures.1 in
    rw (p.1, p.2) (fails_at (λ rest. from_wire (number_at 8 rest)) header_load _ (begun g.R.Read.remaining c.args.source.now header_at) header_start c.in_err-load.ensures)

pub returns-in_err-table-clause-read : goal.returns-in_err-table-clause-read
returns-in_err-table-clause-read g c =
    let load = c.in_ok-load.load in
    let s1 = step_on (λ rest. from_wire (number_at 8 rest)) header_load load (begun g.R.Read.remaining c.args.source.now header_at) header_start c.in_ok-load.ensures in
    let p = err_from_is_err_and c.from_residual-in_err-table.result c.from_residual-in_err-table.ensures.1 in
    rw (p.1, p.2) (fails_at name_at (header_table load) _ s1 (λ rest. refl) c.in_err-table.ensures.read)

pub returns-in_err-slice-clause-read : goal.returns-in_err-slice-clause-read
returns-in_err-slice-clause-read g c =
    let load = c.in_ok-load.load in
    let s1 = step_on (λ rest. from_wire (number_at 8 rest)) header_load load (begun g.R.Read.remaining c.args.source.now header_at) header_start c.in_ok-load.ensures in
    let table = c.in_ok-table.table in
    let s2 = step_on name_at (header_table load) table s1 (λ rest. refl) c.in_ok-table.ensures.read in
    let p = err_from_is_err_and c.from_residual-in_err-slice.result c.from_residual-in_err-slice.ensures.1 in
    rw (p.1, p.2) (fails_at slice_at (header_slice load table) _ s2 (λ rest. refl) c.in_err-slice.ensures.read)

pub returns-in_err-columns-clause-read : goal.returns-in_err-columns-clause-read
returns-in_err-columns-clause-read g c =
    let load = c.in_ok-load.load in
    let s1 = step_on (λ rest. from_wire (number_at 8 rest)) header_load load (begun g.R.Read.remaining c.args.source.now header_at) header_start c.in_ok-load.ensures in
    let table = c.in_ok-table.table in
    let s2 = step_on name_at (header_table load) table s1 (λ rest. refl) c.in_ok-table.ensures.read in
    let slice = c.in_ok-slice.slice in
    let s3 = step_on slice_at (header_slice load table) slice s2 (λ rest. refl) c.in_ok-slice.ensures.read in
    let p = err_from_is_err_and c.from_residual-in_err-columns.result c.from_residual-in_err-columns.ensures.1 in
    rw (p.1, p.2) (fails_at counted_at (header_columns load table slice) _ s3 (λ rest. refl) c.in_err-columns.ensures.read)

pub returns-clause-read : goal.returns-clause-read
returns-clause-read g c =
    let load = c.in_ok-load.load in
    let s1 = step_on (λ rest. from_wire (number_at 8 rest)) header_load load (begun g.R.Read.remaining c.args.source.now header_at) header_start c.in_ok-load.ensures in
    let table = c.in_ok-table.table in
    let s2 = step_on name_at (header_table load) table s1 (λ rest. refl) c.in_ok-table.ensures.read in
    let slice = c.in_ok-slice.slice in
    let s3 = step_on slice_at (header_slice load table) slice s2 (λ rest. refl) c.in_ok-slice.ensures.read in
    let s4 = step_on counted_at (header_columns load table slice) c.in_ok-columns.columns.items s3 (λ rest. refl) c.in_ok-columns.ensures.read in
    rw c.from_vec.ensures (finishes _ s4 (λ rest. refl))
