-- One file more is taken, or named and passed over.
use Rattle.std.proofs.Common.{◌≡◌, ℕ, Bool, ◌+◌, ◌<◌, true, false, List, [], ◌∷◌, ◌++◌, map, length, take, get_or, slice_set, slice_index_or, All, OnOk, inl, inr, refl, sym, ap, ◌∙◌, subst, append_assoc, append-nil}
use Rattle.std.specs.Prelude.{Option, None, Some, Result, Ok, Err, flat_map}
use Rattle.std.specs.Io.KnownBytes.{Appends}
use Rattle.std.proofs.lemmas.Grind.{flat_map-append}
use Rattle.std.proofs.lemmas.List.{map-append, take_all, take_more}
use Rattle.std.proofs.lemmas.Bool.{true≢false}
use Rattle.std.proofs.lemmas.List.Elements.{All-nil, All-push, Contains-get_or}
use Rattle.std.specs.Prelude.{◌≤◌, ◌^◌, Contains}
use Rattle.meaning.specs.Gather.{join_cells}
use Rattle.meaning.specs.Said.{Cell}
use Rattle.meaning.specs.declared.answer.Cell.TheVariants.{Nothing, One}
use Rattle.answer_fields.specs.Fault.{number_of}
use Rattle.partial_codec.specs.Job.{JobSpec}
use Rattle.partial_codec.specs.State.{SpellsState, is_state}
use Rattle.answer_fields.specs.declared.fault.DecodeFault.{DecodeFault}
use Rattle.gathering.specs.Gathering.{GatherSpec, Joins, Takes, join_states}
use Rattle.gathering.specs.declared.gather.Absorbed.{Absorbed}
use Rattle.gathering.proofs.Held.{below_cut}
use Rattle.folders.specs.Folder.{AreHeld, Holds}
use Rattle.folders.specs.declared.journal_refusal.JournalRefusal.{JournalRefusal}
use Rattle.folders.specs.declared.journal_refusal.JournalRefusal.TheVariants as journal_refusal
use Rattle.folders.specs.declared.refusal.Refusal.{Refusal}
use Rattle.folders.specs.declared.refusal.Refusal.TheVariants as refusal
use Rattle.jobs.specs.PassedOver.{passed_over_line}
use Rattle.jobs.specs.declared.takes_answers.TakeFault.{TakeFault}
use Rattle.jobs.specs.declared.takes_answers.TakeFault.TheVariants as take_fault
use Rattle.jobs.specs.Gathering.{IsFileRefused, IsTaken, IsTaking, IsTakingRefused, IsTooLong, IsUnrecorded, IsUnreturned, Taken, Taking, answer, as_state, gathered, line_of, obstacle_of, passed, state, takings_of}
use Rattle.jobs.specs.Taking.{IsRefused, TakesBytes, TakesFile, TakesOrNames, TookFiles}
use Rattle.jobs.proofs.Together.{answer_more, passed_more, state_more}

pub appends_nothing : (o : Option (List ℕ)) → Appends o o []
appends_nothing None = tt
appends_nothing (Some xs) = sym (append-nil xs)

pub appends_more : (a b c : Option (List ℕ)) (xs ys : List ℕ) → Appends a b xs → Appends b c ys → Appends a c (xs ++ ys)
appends_more None b c xs ys one two = tt
appends_more (Some old) None c xs ys one two = absurd one
appends_more (Some old) (Some now) None xs ys one two = absurd two
appends_more (Some old) (Some now) (Some new) xs ys one two = two ∙ ap (λ l. l ++ ys) one ∙ append_assoc old xs ys

pub on_ok : {T E : Type 0} (r : Result T E) (P Q : Type 0) → (P → Q) → OnOk r P → OnOk r Q
on_ok (Ok x) P Q so is = so is
on_ok (Err e) P Q so is = tt

pub taken_answer : (journaled : Bool) (old new : GatherSpec) (bytes : List ℕ) (returned : Absorbed) → as_state journaled bytes ≡ false → Takes old new bytes returned → TakesBytes journaled old new bytes
taken_answer journaled old new bytes returned begins takes = record {
  taking = answer takes.answer;
  is = (begins, takes.spelled);
  adds = record {
    job = takes.job;
    state = λ takings before.
        takes.cells
        ∙ ap (λ (cells : List Cell). slice_set cells takes.answer.k (join_cells (slice_index_or cells takes.answer.k Nothing) (One takes.answer.body))) before
        ∙ answer_more old.job.cut takings takes.answer (below_cut old.job takes.answer takes.spelled.fits);
  };
  unnamed = λ path. refl;
}

pub taken_state : (old new : GatherSpec) (bytes : List ℕ) → is_state bytes ≡ true
    → ((cells : List Cell) × SpellsState old.job bytes cells × Joins old new cells) → TakesBytes false old new bytes
taken_state old new bytes begins (cells, spelled, joins) = record {
  taking = state cells;
  is = (begins, spelled);
  adds = record {
    job = joins.job;
    state = λ takings before.
        joins.cells
        ∙ ap (λ (held : List Cell). join_states held cells) before
        ∙ state_more old.job.cut takings cells spelled.fits.fragments;
  };
  unnamed = λ path. refl;
}

pub taken_quietly : (journaled : Bool) (old new : GatherSpec) (path bytes : List ℕ) (err : Option (List ℕ)) → TakesBytes journaled old new bytes → TakesOrNames journaled old new path bytes err err
taken_quietly journaled old new path bytes err takes = record {
  taking = takes.taking;
  is = takes.is;
  adds = takes.adds;
  named = subst (Appends err err) (sym (takes.unnamed path)) (appends_nothing err);
}

pub passed_over : (journaled : Bool) (old new : GatherSpec) (path bytes : List ℕ) (fault : DecodeFault) (before after : Option (List ℕ)) → obstacle_of journaled old.job bytes ≡ Some fault → new ≡ old
    → Appends before after (passed_over_line (number_of fault) path) → TakesOrNames journaled old new path bytes before after
passed_over journaled old new path bytes fault before after obstacle same named = record {
  taking = passed fault;
  is = obstacle;
  adds = record {
    job = ap (λ (g : GatherSpec). g.job) same;
    state = λ takings known. ap (λ (g : GatherSpec). g.cells) same ∙ known ∙ passed_more old.job.cut takings fault;
  };
  named = named;
}

-- ---- one file after the other

pub took_none : (journaled : Bool) (holds : Holds) (g : GatherSpec) (err : Option (List ℕ)) → TookFiles journaled holds g g [] err err
took_none journaled holds g err = record {
  files = [];
  taken = record { paths_are = refl; each = All-nil (IsTaken journaled holds g.job); named = appends_nothing err };
  job = refl;
  state = λ takings known. known ∙ ap (gathered g.job.cut) (sym (append-nil takings));
}

pub took_more : (journaled : Bool) (holds : Holds) (start now after : GatherSpec) (paths : List (List ℕ)) (k : ℕ) (path : List ℕ) (before then_ last : Option (List ℕ)) → k < length paths → path ≡ get_or paths k path
    → TookFiles journaled holds start now (take k paths) before then_ → TakesFile journaled holds now after path then_ last → TookFiles journaled holds start after (take (k + 1) paths) before last
took_more journaled holds start now after paths k path before then_ last below at took takes = record {
  files = all;
  taken = record { paths_are = paths_are; each = each; named = named };
  job = takes.takes.adds.job ∙ took.job;
  state = reached;
}
  where
    file : Taken
    file = record { path = path; bytes = takes.bytes; taking = takes.takes.taking }

    all : List Taken
    all = took.files ++ file ∷ []

    paths_are : map (λ (f : Taken). f.path) all ≡ take (k + 1) paths
    paths_are =
        map-append (λ (f : Taken). f.path) took.files (file ∷ [])
        ∙ ap (λ (l : List (List ℕ)). l ++ path ∷ []) took.taken.paths_are
        ∙ ap (λ (p : List ℕ). take k paths ++ p ∷ []) at
        ∙ sym (take_more paths k path below)

    each : All (IsTaken journaled holds start.job) all
    each = All-push (IsTaken journaled holds start.job) took.files file took.taken.each
        (record { held = takes.held; taking = subst (λ (job : JobSpec). IsTaking journaled job takes.bytes takes.takes.taking) took.job takes.takes.is })

    lines : flat_map line_of took.files ++ line_of file ≡ flat_map line_of all
    lines = ap (λ l. flat_map line_of took.files ++ l) (sym (append-nil (line_of file))) ∙ sym (flat_map-append line_of took.files (file ∷ []))

    named : Appends before last (flat_map line_of all)
    named = subst (Appends before last) lines (appends_more before then_ last (flat_map line_of took.files) (line_of file) took.taken.named takes.takes.named)

    longer : (takings : List Taking) → (takings ++ takings_of took.files) ++ file.taking ∷ [] ≡ takings ++ takings_of all
    longer takings = append_assoc takings (takings_of took.files) (file.taking ∷ []) ∙ ap (λ (l : List Taking). takings ++ l) (sym (map-append (λ (f : Taken). f.taking) took.files (file ∷ [])))

    reached : (takings : List Taking) → start.cells ≡ gathered start.job.cut takings → after.cells ≡ gathered start.job.cut (takings ++ takings_of all)
    reached takings known =
        takes.takes.adds.state (takings ++ takings_of took.files) (took.state takings known ∙ ap (λ (job : JobSpec). gathered job.cut (takings ++ takings_of took.files)) (sym took.job))
        ∙ ap (λ (job : JobSpec). gathered job.cut ((takings ++ takings_of took.files) ++ file.taking ∷ [])) took.job
        ∙ ap (gathered start.job.cut) (longer takings)

pub took_all : (journaled : Bool) (holds : Holds) (start now : GatherSpec) (paths : List (List ℕ)) (k : ℕ) (before after : Option (List ℕ)) → length paths ≤ k
    → TookFiles journaled holds start now (take k paths) before after → TookFiles journaled holds start now paths before after
took_all journaled holds start now paths k before after none took = subst (λ (l : List (List ℕ)). TookFiles journaled holds start now l before after) (take_all k paths none) took

-- ---- a journal

unrecorded_for : (before sooner long longer : Type 0) (fault : JournalRefusal) → (before → sooner) → (long → longer) → IsUnrecorded before long fault → IsUnrecorded sooner longer fault
unrecorded_for before sooner long longer journal_refusal.Device first second is = tt
unrecorded_for before sooner long longer journal_refusal.Full first second is = tt
unrecorded_for before sooner long longer journal_refusal.NotAJournal first second is = is
unrecorded_for before sooner long longer journal_refusal.OpenAgain first second is = first is
unrecorded_for before sooner long longer journal_refusal.TooLong first second is = second is

-- an answer that can't be put into an open journal isn't returned
pub unkept : (journaled is_open : Bool) (job : JobSpec) (bytes : List ℕ) (e : TakeFault) (fault : JournalRefusal) → is_open ≡ true → e ≡ take_fault.Journal fault → IsRefused journaled is_open job bytes e
    → IsUnreturned journaled (2 ^ 32 ≤ length bytes) (refusal.Journal fault)
unkept journaled is_open job bytes e fault ready is refused =
    let at = subst (IsRefused journaled is_open job bytes) is refused in
    inr (inr (fault, at.0, unrecorded_for (is_open ≡ false) ⊥ _ _ fault (λ closed. true≢false (sym ready ∙ closed)) (λ long. long) at.1, refl))

unreturned_for : (journaled : Bool) (long longer : Type 0) (e : Refusal) → (long → longer) → IsUnreturned journaled long e → IsUnreturned journaled longer e
unreturned_for journaled long longer e so (inl memory) = inl memory
unreturned_for journaled long longer e so (inr (inl unnamed)) = inr (inl unnamed)
unreturned_for journaled long longer e so (inr (inr (fault, has, unrecorded, returned))) = inr (inr (fault, has, unrecorded_for ⊥ ⊥ long longer fault (λ never. never) so unrecorded, returned))

long_file : (held : Option (List ℕ)) (bytes : List ℕ) → AreHeld held bytes → 2 ^ 32 ≤ length bytes → IsTooLong held
long_file None bytes held long = tt
long_file (Some known) bytes held long = subst (λ (bs : List ℕ). 2 ^ 32 ≤ length bs) held long

-- a file's bytes are refused
pub file_refused : (journaled : Bool) (holds : Holds) (path bytes : List ℕ) (e : Refusal) → AreHeld (holds path) bytes → IsUnreturned journaled (2 ^ 32 ≤ length bytes) e → IsFileRefused journaled holds path e
file_refused journaled holds path bytes e held unreturned = inl (unreturned_for journaled _ _ e (long_file (holds path) bytes held) unreturned)

-- so is one of the files
pub one_refused : (journaled : Bool) (holds : Holds) (paths : List (List ℕ)) (k : ℕ) (path : List ℕ) (e : Refusal) → k < length paths → path ≡ get_or paths k path → IsFileRefused journaled holds path e → IsTakingRefused journaled holds paths e
one_refused journaled holds paths k path e below at refused = of_one refused
  where
    among : Contains paths path
    among = subst (Contains paths) (sym at) (Contains-get_or paths k path below)

    of_one : IsFileRefused journaled holds path e → IsTakingRefused journaled holds paths e
    of_one (inl unreturned) = inl (unreturned_for journaled _ _ e (λ long. (path, among, long)) unreturned)
    of_one (inr unread) = inr (path, among, unread)
