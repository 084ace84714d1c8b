-- The rows of groups behind others.
use Rattle.std.proofs.Common.{◌≡◌, ℕ, zero, suc, ◌+◌, ◌<◌, ◌≤◌, true, false, cond, List, [], ◌∷◌, ◌++◌, map, take, drop, length, get_or, replicate, Ok, Err, None, Some, refl, sym, ap, ◌∙◌, subst, append_assoc, append-nil}
use Rattle.std.specs.Prelude.{Option, Result}
use Rattle.std.specs.List.{AllByRecursion}
use Rattle.std.proofs.lemmas.List.{take-append-drop, take_all, take_more}
use Rattle.std.proofs.lemmas.List.Elements.{All-from_recursion, recursion_from_All}
use Rattle.meaning.specs.declared.answer.Group.{Group}
use Rattle.meaning.specs.declared.plan.Plan.{Plan}
use Rattle.meaning.specs.Answer.{read_off}
use Rattle.meaning.specs.Finish.{all_rows, rows_of, shown}
use Rattle.meaning.specs.Joined.{group_row}
use Rattle.meaning.specs.Order.{Row}
use Rattle.meaning.specs.Results.{all_ok, and_then, with_result}
use Rattle.last_step.specs.declared.stop.Stop.{Stop}
use Rattle.last_step.specs.declared.stop.Stop.TheVariants as stop
use Rattle.last_step.specs.Best.{best, best_of}
use Rattle.last_step.proofs.BestRows.{best_kept, from_best, only_fault, same_parts}
use Rattle.last_step.specs.Batches.{HasValues, IsFront, IsJudged, ended, row_in, row_of, shown_after}
use Rattle.last_step.specs.Fitting.{AreGroupsOf}
use Rattle.meaning.specs.Wanting.{ReportsIfMemory}
use Rattle.last_step.specs.Given.{fault_returned}
use Rattle.meaning.specs.Fitting.{is_group_of}
use Rattle.last_step.specs.Runs.{plain_rows, rows_after}

module _ (plan : Plan) where
  moved : (before : List Row) (r : Result (List Row) ℕ) (parts : Result (List (List Row)) ℕ)
      → and_then (with_result r parts) (λ ps. Ok (before ++ all_rows ps)) ≡ and_then r (λ rows. and_then parts (λ ps. Ok ((before ++ rows) ++ all_rows ps)))
  moved before (Err c) parts = refl
  moved before (Ok rows) (Err c) = refl
  moved before (Ok rows) (Ok ps) = ap Ok (sym (append_assoc before rows (all_rows ps)))

  -- one group, then the others
  pub one_after : (before : List Row) (g : Group) (gs : List Group) → rows_after plan before (g ∷ gs) ≡ and_then (rows_of plan (read_off plan g)) (λ rows. rows_after plan (before ++ rows) gs)
  one_after before g gs = moved before (rows_of plan (read_off plan g)) (all_ok (map (rows_of plan) (map (read_off plan) gs)))

  pub and_then_as : {X Y : Type 0} (r : Result X ℕ) (f h : X → Result Y ℕ) → ((x : X) → f x ≡ h x) → and_then r f ≡ and_then r h
  and_then_as (Ok x) f h same = same x
  and_then_as (Err c) f h same = refl

  in_turn : {X Y Z : Type 0} (r : Result X ℕ) (f : X → Result Y ℕ) (h : Y → Result Z ℕ) → and_then r (λ x. and_then (f x) h) ≡ and_then (and_then r f) h
  in_turn (Ok x) f h = refl
  in_turn (Err c) f h = refl

  -- some groups, then the others
  pub both_after : (before : List Row) (xs ys : List Group) → rows_after plan before (xs ++ ys) ≡ and_then (rows_after plan before xs) (λ rows. rows_after plan rows ys)
  both_after before [] ys = ap (λ rows. rows_after plan rows ys) (sym (append-nil before))
  both_after before (x ∷ xs) ys =
      one_after before x (xs ++ ys)
      ∙ and_then_as (rows_of plan (read_off plan x)) (λ rows. rows_after plan (before ++ rows) (xs ++ ys)) (λ rows. and_then (rows_after plan (before ++ rows) xs) (λ all. rows_after plan all ys)) (λ rows. both_after (before ++ rows) xs ys)
      ∙ in_turn (rows_of plan (read_off plan x)) (λ rows. rows_after plan (before ++ rows) xs) (λ all. rows_after plan all ys)
      ∙ ap (λ r. and_then r (λ all. rows_after plan all ys)) (sym (one_after before x xs))

  ending : (r : Result (List Row) ℕ) → r ≡ and_then r (ended None)
  ending (Ok rows) = refl
  ending (Err c) = refl

  -- ---- aggregates

  grouped : (g : Group) → plan.plain ≡ false → rows_of plan (read_off plan g) ≡ and_then (all_ok (read_off plan g).aggregates) (λ values. shown plan (group_row g.key values))
  grouped g not_plain = ap (λ b. cond b (Ok (replicate g.rows g.key)) (and_then (all_ok (read_off plan g).aggregates) (λ values. shown plan (group_row g.key values)))) not_plain

  pub one_more_sound : (gs : List Group) (k : ℕ) (g : Group) → k < length gs → g ≡ get_or gs k g → IsJudged (read_off plan g).aggregates (Ok tt) → AllByRecursion (HasValues plan) (take k gs)
      → AllByRecursion (HasValues plan) (take (k + 1) gs)
  one_more_sound gs k g below at judged all =
      subst (AllByRecursion (HasValues plan)) (sym (take_more gs k g below)) (push (take k gs) (get_or gs k g) all (subst (HasValues plan) at (record { row = judged.0; are = judged.1; fit = judged.2 })))
    where
      push : (xs : List Group) (x : Group) → AllByRecursion (HasValues plan) xs → HasValues plan x → AllByRecursion (HasValues plan) (xs ++ x ∷ [])
      push [] x all is = (is, tt)
      push (y ∷ ys) x all is = (all.0, push ys x all.1 is)

  -- all groups have values
  pub front_all : (gs : List Group) (n : ℕ) → length gs ≤ n → n ≤ length gs → AllByRecursion (HasValues plan) (take n gs) → IsFront plan gs n None
  front_all gs n high low all = record {
    within = low;
    sound = All-from_recursion (HasValues plan) (take n gs) all;
    behind = λ before. ap (rows_after plan before) (sym (take_all n gs high)) ∙ ending (rows_after plan before (take n gs));
  }

  -- a group has a fault
  pub front_until : (gs : List Group) (k : ℕ) (g : Group) (rest : List Group) (code : ℕ) → plan.plain ≡ false → k ≤ length gs → drop k gs ≡ g ∷ rest
      → all_ok (read_off plan g).aggregates ≡ Err code → AllByRecursion (HasValues plan) (take k gs) → IsFront plan gs k (Some code)
  front_until gs k g rest code not_plain low here bad all = record {
    within = low;
    sound = All-from_recursion (HasValues plan) (take k gs) all;
    behind = λ before.
        ap (rows_after plan before) (sym (take-append-drop k gs))
        ∙ both_after before (take k gs) (drop k gs)
        ∙ and_then_as (rows_after plan before (take k gs)) (λ rows. rows_after plan rows (drop k gs)) (ended (Some code))
        (λ rows. ap (rows_after plan rows) here ∙ one_after rows g rest ∙ ap (λ r. and_then r (λ more. rows_after plan (rows ++ more) rest))
        (grouped g not_plain ∙ ap (λ r. and_then r (λ values. shown plan (group_row g.key values))) bad));
  }

  shown_each : (gs : List Group) → plan.plain ≡ false → AllByRecursion (HasValues plan) gs → map (rows_of plan) (map (read_off plan) gs) ≡ map (shown plan) (map (row_in plan) gs)
  shown_each [] not_plain all = refl
  shown_each (g ∷ gs) not_plain all =
      let is = all.0.are in
      let one : rows_of plan (read_off plan g) ≡ shown plan (row_in plan g) =
      grouped g not_plain ∙ ap (λ r. and_then r (λ values. shown plan (group_row g.key values))) is
      ∙ ap (λ r. shown plan (group_row g.key (row_of r))) (sym is) in
      λ i. one i ∷ shown_each gs not_plain all.1 i

  -- where each aggregate has a value, HAVING and the items determine the rows
  pub sound_after : (before : List Row) (gs : List Group) → plan.plain ≡ false → AllByRecursion (HasValues plan) gs → rows_after plan before gs ≡ shown_after plan before (map (row_in plan) gs)
  sound_after before gs not_plain all = ap (λ rs. and_then (all_ok rs) (λ parts. Ok (before ++ all_rows parts))) (shown_each gs not_plain all)

  -- ---- plain queries

  plain_parts : (before : List Row) (gs : List Group) → plan.plain ≡ true → rows_after plan before gs ≡ Ok (before ++ plain_rows false gs)
  plain_parts before [] plain = refl
  plain_parts before (g ∷ gs) plain =
      let one : rows_of plan (read_off plan g) ≡ Ok (replicate g.rows g.key) =
      ap (λ b. cond b (Ok (replicate g.rows g.key)) (and_then (all_ok (read_off plan g).aggregates) (λ values. shown plan (group_row g.key values)))) plain in
      one_after before g gs
      ∙ ap (λ r. and_then r (λ rows. rows_after plan (before ++ rows) gs)) one
      ∙ plain_parts (before ++ replicate g.rows g.key) gs plain
      ∙ ap Ok (append_assoc before (replicate g.rows g.key) (plain_rows false gs))

  -- the best of the keys, however often each is kept
  pub plain_after : (before : List Row) (gs : List Group) → plan.plain ≡ true → best_of plan (rows_after plan before gs) ≡ Ok (best plan (before ++ plain_rows plan.distinct gs))
  plain_after before gs plain = ap (best_of plan) (plain_parts before gs plain) ∙ ap Ok (sym (best_kept plan before gs))

  -- ---- batch by batch

  in_two : (gs : List Group) (n : ℕ) (before : List Row) → rows_after plan before gs ≡ and_then (rows_after plan before (take n gs)) (λ rows. rows_after plan rows (drop n gs))
  in_two gs n before = ap (rows_after plan before) (sym (take-append-drop n gs)) ∙ both_after before (take n gs) (drop n gs)

  -- rows of which the same is shown as of those that stood there
  pub next_best : (gs : List Group) (n : ℕ) (before now : List Row) (all : Result (List Row) ℕ) → best_of plan (rows_after plan before (take n gs)) ≡ Ok (best plan now) → best_of plan (rows_after plan before gs) ≡ all
      → best_of plan (rows_after plan now (drop n gs)) ≡ all
  next_best gs n before now all is so_far =
      let (middle, whole, same) = from_best plan (rows_after plan before (take n gs)) (best plan now) is in
      same_parts plan now middle (all_ok (map (rows_of plan) (map (read_off plan) (drop n gs)))) (sym same)
      ∙ ap (best_of plan) (sym (in_two gs n before ∙ ap (λ r. and_then r (λ rows. rows_after plan rows (drop n gs))) whole)) ∙ so_far

  pub stop_best : {X Y : Type 0} (seen : X → List Row) (view : Y → List Row) (gs : List Group) (n : ℕ) (before : List Row) (e : Stop) (all : Result (List Row) ℕ) → ReportsIfMemory fault_returned seen (Err e) (best_of plan (rows_after plan before (take n gs))) → best_of plan (rows_after plan before gs) ≡ all
      → ReportsIfMemory fault_returned view (Err e) all
  stop_best seen view gs n before stop.Memory all bad so_far = tt
  stop_best seen view gs n before (stop.Fault c) all bad so_far =
      sym so_far ∙ ap (best_of plan) (in_two gs n before ∙ ap (λ r. and_then r (λ rows. rows_after plan rows (drop n gs))) (only_fault plan (rows_after plan before (take n gs)) c bad))

  taken : {X : Type 0} (P : X → Type 0) (n : ℕ) (xs : List X) → AllByRecursion P xs → AllByRecursion P (take n xs)
  taken P zero xs all = tt
  taken P (suc n) [] all = tt
  taken P (suc n) (x ∷ xs) all = (all.0, taken P n xs all.1)

  dropped : {X : Type 0} (P : X → Type 0) (n : ℕ) (xs : List X) → AllByRecursion P xs → AllByRecursion P (drop n xs)
  dropped P zero xs all = all
  dropped P (suc n) [] all = tt
  dropped P (suc n) (x ∷ xs) all = dropped P n xs all.1

  pub front_groups : (n : ℕ) (gs : List Group) → AreGroupsOf plan gs → AreGroupsOf plan (take n gs)
  front_groups n gs groups = record { typed = groups.typed; shaped = All-from_recursion (λ g. is_group_of plan g ≡ true) (take n gs) (taken (λ g. is_group_of plan g ≡ true) n gs (recursion_from_All (λ g. is_group_of plan g ≡ true) gs groups.shaped)) }

  pub rest_groups : (n : ℕ) (gs : List Group) → AreGroupsOf plan gs → AreGroupsOf plan (drop n gs)
  rest_groups n gs groups = record { typed = groups.typed; shaped = All-from_recursion (λ g. is_group_of plan g ≡ true) (drop n gs) (dropped (λ g. is_group_of plan g ≡ true) n gs (recursion_from_All (λ g. is_group_of plan g ≡ true) gs groups.shaped)) }

  -- what a batch gives, behind its front
  pub front_then : {X : Type 0} (gs : List Group) (n : ℕ) (fault : Option ℕ) (before now : List Row) (r : Result X Stop) → IsFront plan gs n fault → best_of plan (rows_after plan before (take n gs)) ≡ Ok (best plan now)
      → ReportsIfMemory fault_returned (λ _. now) r (ended fault now) → ReportsIfMemory fault_returned (λ _. best plan now) r (best_of plan (rows_after plan before gs))
  front_then {X = X} gs n fault before now r is front ends =
      let (middle, whole, same) = from_best plan (rows_after plan before (take n gs)) (best plan now) front in
      by_end r fault middle same ends (is.behind before ∙ ap (λ rows. and_then rows (ended fault)) whole)
    where
      by_end : (r : Result X Stop) (fault : Option ℕ) (middle : List Row) → best plan middle ≡ best plan now → ReportsIfMemory fault_returned (λ _. now) r (ended fault now)
          → rows_after plan before gs ≡ ended fault middle → ReportsIfMemory fault_returned (λ _. best plan now) r (best_of plan (rows_after plan before gs))
      by_end (Ok x) None middle same ends all = ap (best_of plan) all ∙ ap Ok same
      by_end (Ok x) (Some c) middle same ends all = absurd cc
      by_end (Err stop.Memory) fault middle same ends all = tt
      by_end (Err (stop.Fault c)) None middle same ends all = absurd cc
      by_end (Err (stop.Fault c)) (Some d) middle same ends all = ap (best_of plan) all ∙ ends

  pub front_stops : {X Y : Type 0} (seen : X → List Row) (view : Y → List Row) (gs : List Group) (n : ℕ) (fault : Option ℕ) (before : List Row) (e : Stop) → IsFront plan gs n fault
      → ReportsIfMemory fault_returned seen (Err e) (best_of plan (rows_after plan before (take n gs))) → ReportsIfMemory fault_returned view (Err e) (best_of plan (rows_after plan before gs))
  front_stops seen view gs n fault before stop.Memory is bad = tt
  front_stops seen view gs n fault before (stop.Fault c) is bad =
      ap (best_of plan) (is.behind before ∙ ap (λ r. and_then r (ended fault)) (only_fault plan (rows_after plan before (take n gs)) c bad))
