-- Over files whose bytes are known, a query has one job.
use Rattle.std.specs.Prelude.{◌≡◌, ℕ, ◌==◌, nat_lt, ◌≤◌, Bool, true, false, ◌||◌, if◌then◌else◌, List, [], ◌∷◌, length, Option, Some, Result, Ok, Err}
use Rattle.std.specs.List.{AllByRecursion, list_any}
use Rattle.std.proofs.Common.{refl, sym, ap, subst, ◌∙◌, inl, inr, arith}
use Rattle.std.proofs.lemmas.Bool.{cases_Bool, eqb-false, ltb-false}
use Rattle.std.proofs.lemmas.List.Elements.{All-from_recursion}
use Rattle.meaning.specs.Cut.{Cut, IsCut, cut_of}
use Rattle.meaning.specs.Limits.{max_fragments, max_rows}
use Rattle.meaning.specs.declared.catalog.Catalog.{Catalog}
use Rattle.meaning.specs.declared.catalog.CatalogFault.{CatalogFault}
use Rattle.meaning.specs.declared.cut.CutFault.{CutFault}
use Rattle.meaning.specs.declared.cut.CutFault.TheVariants.{NoFragment, TooManyFragments, FragmentTooLong}
use Rattle.meaning.specs.declared.plan.Plan.{Plan}
use Rattle.catalog_reader.specs.CatalogText.{catalog_of}
use Rattle.fragment_file.specs.CutFile.{CutFileSpec, IsCutFileOf}
use Rattle.fragment_file.proofs.CutLaws.{cut_again}
use Rattle.sql_reader.proofs.Answering.{one_tree}
use Rattle.planner.specs.Planned.{planned}
use Rattle.planner.specs.QueryText.{IsPlanned}
use Rattle.planner_expressions.specs.declared.fault.PlanFault.{PlanFault}
use Rattle.partial_codec.specs.Job.{JobSpec}
use Rattle.folders.specs.Folder.{AreHeld, Holds, catalog_path, cut_path}
use Rattle.jobs.specs.Job.{IsCutThere, IsJobOf}
use Rattle.folders.specs.Tables.{IsCatalogThere}

-- what was read is what is known
pub read_known : (held : Option (List ℕ)) (bytes read : List ℕ) → held ≡ Some bytes → AreHeld held read → read ≡ bytes
read_known held bytes read is are = subst (λ (h : Option (List ℕ)). AreHeld h read) is are

ok_same : {X E : Type 0} (x y : X) → ◌≡◌ {A = Result X E} (Ok x) (Ok y) → x ≡ y
ok_same x y e = cc

-- ---- the catalogue and the plan

pub one_catalog : (holds : Holds) (folder text : List ℕ) (c d : Catalog) → holds (catalog_path folder) ≡ Some text → catalog_of text ≡ Ok d → IsCatalogThere holds folder c → c ≡ d
one_catalog holds folder text c d held declared there =
    let same = read_known (holds (catalog_path folder)) text there.bytes held there.held in
    ok_same {E = CatalogFault} c d (sym there.declared ∙ ap catalog_of same ∙ declared)

one_plan : (catalog : Catalog) (query : List ℕ) (p q : Plan) → IsPlanned catalog query (Ok p) → IsPlanned catalog query (Ok q) → p ≡ q
one_plan catalog query p q one two =
    let trees = one_tree query one.tree two.tree one.within.tree two.within.tree in
    ok_same {E = PlanFault} p q (sym one.gives ∙ ap (planned catalog) trees ∙ two.gives)

-- ---- the cut

pub cut_known : (holds : Holds) (folder bytes : List ℕ) (load : ℕ) (cut : Cut) → holds (cut_path folder) ≡ Some bytes → IsCutThere holds folder load cut → IsCutFileOf bytes (record { load = load; cut = cut })
cut_known holds folder bytes load cut held there =
    subst (λ (bs : List ℕ). IsCutFileOf bs (record { load = load; cut = cut })) (read_known (holds (cut_path folder)) bytes there.bytes held there.held) there.spelled

pub one_cut : (bytes : List ℕ) (f g : CutFileSpec) → IsCutFileOf bytes f → IsCutFileOf bytes g → f ≡ g
one_cut bytes f g one two = ok_same f g (sym (cut_again bytes f one) ∙ cut_again bytes g two)

none_long : (lengths : List ℕ) → list_any (λ n. nat_lt max_rows n) lengths ≡ false → AllByRecursion (λ n. n ≤ max_rows) lengths
none_long [] e = tt
none_long (n ∷ lengths) e = elim (cases_Bool (nat_lt max_rows n)) [
  | inl long ↦ let over : true ≡ false = rw long at e in cc over
  | inr short ↦ let rest : list_any (λ n. nat_lt max_rows n) lengths ≡ false = rw short at e in (ltb-false max_rows n short, none_long lengths rest)
]

-- lengths that are a cut
pub made_cut : (lengths cut : List ℕ) → cut_of lengths ≡ Ok cut → IsCut cut
made_cut lengths cut made = elim (cases_Bool (length lengths == 0)) [
  | inl none ↦ let refused : ◌≡◌ {A = Result (List ℕ) CutFault} (Err NoFragment) (Ok cut) = rw none at made in cc refused
  | inr some ↦
      let behind = rw some at made in
      elim (cases_Bool (nat_lt max_fragments (length lengths))) [
        | inl many ↦ let refused : ◌≡◌ {A = Result (List ℕ) CutFault} (Err TooManyFragments) (Ok cut) = rw many at behind in cc refused
        | inr few ↦
            let last = rw few at behind in
            elim (cases_Bool (list_any (λ n. nat_lt max_rows n) lengths)) [
              | inl long ↦ let refused : ◌≡◌ {A = Result (List ℕ) CutFault} (Err FragmentTooLong) (Ok cut) = rw long at last in cc refused
              | inr short ↦
                  let kept : ◌≡◌ {A = Result (List ℕ) CutFault} (Ok lengths) (Ok cut) = rw short at last in
                  let filled = eqb-false (length lengths) 0 some in
                  let within = ltb-false max_fragments (length lengths) few in
                  subst IsCut (ok_same lengths cut kept) (record {
                    some = at_least_one (length lengths) filled;
                    few = within;
                    short = All-from_recursion (λ n. n ≤ max_rows) lengths (none_long lengths short);
                  })
            ]
      ]
]
  where
    at_least_one : (n : ℕ) → (n ≡ 0 → ⊥) → 1 ≤ n
    at_least_one Rattle.std.proofs.Common.zero some = absurd (some refl)
    at_least_one (Rattle.std.proofs.Common.suc n) some = omega arith

-- ---- the job

pub one_job : (holds : Holds) (folder query text bytes : List ℕ) (i j : JobSpec) → holds (catalog_path folder) ≡ Some text → holds (cut_path folder) ≡ Some bytes → IsJobOf holds folder query i → IsJobOf holds folder query j → i ≡ j
one_job holds folder query text bytes i j text_held cut_held one two =
    let there : catalog_of text ≡ Ok two.catalog = ap catalog_of (sym (read_known (holds (catalog_path folder)) text two.declared.bytes text_held two.declared.held)) ∙ two.declared.declared in
    let catalogs = one_catalog holds folder text one.catalog two.catalog text_held there one.declared in
    let plans = one_plan two.catalog query i.plan j.plan (subst (λ (c : Catalog). IsPlanned c query (Ok i.plan)) catalogs one.over.planned) two.over.planned in
    let cuts = one_cut bytes (record { load = i.load; cut = i.cut }) (record { load = j.load; cut = j.cut })
    (cut_known holds folder bytes i.load i.cut cut_held one.over.loaded) (cut_known holds folder bytes j.load j.cut cut_held two.over.loaded) in
    λ k. record { load = (cuts k).load; plan = plans k; cut = (cuts k).cut }
