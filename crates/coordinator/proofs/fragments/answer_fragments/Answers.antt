-- Proofs of the goals of `answer_fragments` (`fragments`).
use Rattle.std.proofs.Common.{◌≡◌, ◌<◌, ◌≤◌, ◌^◌, ap, sym, subst, refl, ◌∙◌, [], ◌∷◌, ◌++◌, ℕ, ◌+◌, List, length, slice_index_or, arith}
use Rattle.std.specs.Prelude.{None, Ok}
use Rattle.std.specs.List.{range_with_len}
use Rattle.std.proofs.lemmas.List.Elements.{recursion_from_All}
use Rattle.meaning.specs.Limits.{max_rows}
use Rattle.meaning.specs.Said.{Cell}
use Rattle.meaning.specs.Order.{Row}
use Rattle.meaning.specs.Cut.{Cut, IsCut, first_row}
use Rattle.columns.specs.Rows.{columns_of}
use Rattle.meaning.specs.TableLaws.{are_rows_of}
use Rattle.fragment_file.specs.Writing.{AreColumns}
use Rattle.meaning.specs.Answer.{own}
use Rattle.meaning.specs.Gather.{joined}
use Rattle.meaning_laws.specs.Laws.{own_answers}
use Rattle.partial_codec.specs.Job.{JobSpec}
use Rattle.partial_codec.proofs.Fitting.{short_at}
use Rattle.job_files.proofs.FirstRows.{next_fits}
use Rattle.job_files.specs.RowFiles.{rows_of_fragment}
use Rattle.fragment_file.specs.declared.header.Slice.{Slice}
use Rattle.fragment_file.specs.Fragment.{table_header}
use Rattle.job_files.specs.Dimensions.{files_of}
use Rattle.job_files.specs.Inputs.{dimension_files_of, header_fault}
use Rattle.worker.specs.Opened.{AreOpenedFor, AreOver}
use Rattle.coordinator.proofs.AcceptedFiles.{fragment_named}
use Rattle.meaning.specs.declared.plan.Plan.{Plan}
use Rattle.coordinator.proofs.FragmentColumns.{as_many, columns_at, count_at, fileable_at, typed_at}
use Rattle.coordinator.proofs.Slices.{own_answers_to_next}
use Rattle.coordinator.proofs.fragments.answer_fragments.Goals as goal

below_cut : (lengths cut : List ℕ) (k : ℕ) → lengths ≡ cut → k < length lengths → k < length cut
below_cut lengths cut k same below = subst (λ (ls : List ℕ). k < length ls) same below

pub bounds-facts-k : goal.bounds-facts-k
bounds-facts-k c =
    let (rows, are) = c.requires.fragments in
    let below = below_cut c.lengths-lengths.result.now c.args.facts.cut.now c.loop-k.k c.lengths-lengths.ensures.value c.loop-k-test.true in
    let many = as_many c.args.facts.table.now rows c.args.facts.cut.now c.args.facts.fragments.now are in
    omega (arith, below, many)

pub answer_one-requires-clause-rows : goal.answer_one-requires-clause-rows
answer_one-requires-clause-rows c =
    let (rows, are) = c.requires.fragments in
    let table = c.args.facts.table.now in
    let cut = c.args.facts.cut.now in
    let fragments = c.args.facts.fragments.now in
    let k = c.loop-k.k in
    let same = c.lengths-lengths.ensures.value in
    let below = below_cut c.lengths-lengths.result.now cut k same c.loop-k-test.true in
    let is = columns_at table rows cut fragments are k c.index-facts-k.result c.as_slice.result.now below c.index-facts-k.is (c.as_slice.ensures ∙ sym c.index-facts-k.is) in
    record {
      table = c.requires.table;
      few = subst (λ (ls : List ℕ). slice_index_or ls k 0 ≤ max_rows) (sym same) (short_at cut k (recursion_from_All (λ n. n ≤ max_rows) cut c.lengths-lengths.ensures.within_limits.short));
      columns = subst (λ (ls : List ℕ). AreColumns table.columns (slice_index_or ls k 0) c.as_slice.result.now) (sym same) (fileable_at table rows cut fragments are k c.as_slice.result.now below is);
    }

next : (lengths cut : List ℕ) (k first n : ℕ) → lengths ≡ cut → IsCut cut → k < length lengths → first ≡ first_row cut k → n ≡ slice_index_or lengths k 0 → (first + n < 2 ^ 64) × (first + n ≡ first_row cut (k + 1))
next lengths cut k first n same is below begins long =
    next_fits cut k first n is (below_cut lengths cut k same below) begins (long ∙ ap (λ (ls : List ℕ). slice_index_or ls k 0) same)

pub overflow_add-first_row : goal.overflow_add-first_row
overflow_add-first_row c =
    let fits = next c.lengths-lengths.result.now c.args.facts.cut.now c.loop-k.k c.loop-k.first_row c.from-first_row.result c.lengths-lengths.ensures.value
    c.lengths-lengths.ensures.within_limits c.loop-k-test.true c.loop-k.invariant.first c.from-first_row.ensures in
    omega (arith, fits.0)

-- one answer more, where the job is that of before
one_more : (before job : JobSpec) (cut : Cut) (rows : List Row) (tables : List (List Row)) (k : ℕ) (cells : List Cell) → job ≡ before → before.cut ≡ cut
    → cells ≡ joined job.cut (own_answers before.plan tables cut rows (range_with_len 0 k) ++ own job.plan tables job.cut rows k ∷ [])
    → cells ≡ joined cut (own_answers before.plan tables cut rows (range_with_len 0 (k + 1)))
one_more before job cut rows tables k cells same of_cut taken =
    taken
    ∙ ap (λ (j : JobSpec). joined j.cut (own_answers before.plan tables cut rows (range_with_len 0 k) ++ own j.plan tables j.cut rows k ∷ [])) same
    ∙ (λ i. joined (of_cut i) (own_answers before.plan tables cut rows (range_with_len 0 k) ++ own before.plan tables (of_cut i) rows k ∷ []))
    ∙ ap (joined cut) (sym (own_answers_to_next before.plan tables cut rows k))

pub loop-k-preserved : goal.loop-k-preserved
loop-k-preserved c =
    let before = c.args.gather.now.job in
    let table = c.args.facts.table.now in
    let cut = c.args.facts.cut.now in
    let fragments = c.args.facts.fragments.now in
    let k = c.loop-k.k in
    let same = c.lengths-lengths.ensures.value in
    let below = below_cut c.lengths-lengths.result.now cut k same c.loop-k-test.true in
    let of_job = c.loop-k.invariant.same in
    let of_cut = ap (λ (j : JobSpec). j.cut) of_job ∙ c.requires.cut in
    record {
      same = c.in_ok-answer_one.ensures.same ∙ of_job;
      first = (next c.lengths-lengths.result.now cut k c.loop-k.first_row c.from-first_row.result same c.lengths-lengths.ensures.within_limits c.loop-k-test.true c.loop-k.invariant.first c.from-first_row.ensures).1;
      taken = λ rows tables are files.
          let answers = own_answers before.plan tables cut rows (range_with_len 0 k) in
          let fragment = λ (l : Cut). rows_of_fragment l k rows in
          one_more before c.loop-k.gather.job cut rows tables k c.answer_one.new.gather.cells of_job c.requires.cut
          (c.in_ok-answer_one.ensures.taken answers rows tables (record {
            columns = columns_at table rows cut fragments are k c.index-facts-k.result c.as_slice.result.now below c.index-facts-k.is (c.as_slice.ensures ∙ sym c.index-facts-k.is)
                ∙ ap (λ (l : Cut). columns_of table.columns (fragment l)) (sym of_cut);
            counted = ap (λ (l : Cut). length (fragment l)) of_cut ∙ count_at table rows cut fragments are k below ∙ sym (ap (λ (ls : List ℕ). slice_index_or ls k 0) same);
            typed = ap (λ (l : Cut). are_rows_of table.columns (fragment l)) of_cut ∙ typed_at table rows cut fragments are k;
          }) (subst (λ (j : JobSpec). AreOver j tables c.args.dimensions.now) (sym of_job) files) (c.loop-k.invariant.taken rows tables are files ∙ ap (λ (l : Cut). joined l answers) (sym of_cut)));
    }

pub answer_one-requires-clause-dimensions : goal.answer_one-requires-clause-dimensions
answer_one-requires-clause-dimensions c = subst (λ (j : JobSpec). AreOpenedFor j.plan c.args.dimensions.now) (sym c.loop-k.invariant.same) c.requires.dimensions

pub returns-clause-taken : goal.returns-clause-taken
returns-clause-taken c = λ rows tables are over.
    let cut = c.args.facts.cut.now in
    let end : c.loop-k.k ≡ length cut = let past = c.loop-k-test.false in let within = c.loop-k.auto.k-end in let same = ap (λ (ls : List ℕ). length ls) c.lengths-lengths.ensures.value in omega (arith, past, within, same) in
    subst (λ (n : ℕ). c.loop-k.gather.cells ≡ joined cut (own_answers c.args.gather.now.job.plan tables cut rows (range_with_len 0 n))) end (c.loop-k.invariant.taken rows tables are over)

pub answer_one-requires-clause-opened : goal.answer_one-requires-clause-opened
answer_one-requires-clause-opened c =
    let (files, opened) = c.requires.opened in
    (files, subst (λ (j : JobSpec). dimension_files_of j files ≡ Ok (files_of c.args.dimensions.now.tables.items)) (sym c.loop-k.invariant.same) opened)

pub answer_one-requires-clause-named : goal.answer_one-requires-clause-named
answer_one-requires-clause-named c =
    let job = c.args.gather.now.job in
    let k = c.loop-k.k in
    let same = c.lengths-lengths.ensures.value ∙ sym c.requires.cut in
    let slice : Slice = record { fragment = k; first_row = c.loop-k.first_row; rows = slice_index_or c.lengths-lengths.result.now k 0 } in
    let named = fragment_named job c.args.facts.table.now slice c.requires.load c.requires.fact (below_cut c.lengths-lengths.result.now job.cut k same c.loop-k-test.true)
    (c.loop-k.invariant.first ∙ ap (λ (l : Cut). first_row l k) (sym c.requires.cut)) (ap (λ (ls : List ℕ). slice_index_or ls k 0) same) in
    subst (λ (j : JobSpec). header_fault j k (table_header 0 c.args.facts.table.now slice) ≡ None) (sym c.loop-k.invariant.same) named
