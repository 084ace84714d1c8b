-- Which blocks have entries, and how many.
use Rattle.std.proofs.Common.{◌≡◌, ℕ, ◌+◌, ◌*◌, ◌≤◌, true, false, Bool, if◌then◌else◌, length, drop, sum, ap, sym, subst, ◌∙◌, arith, refl}
use Rattle.std.specs.Prelude.{nat_le, ◌==◌}
use Rattle.std.specs.List.{list_all}
use Rattle.std.proofs.lemmas.Bool.{and_parts}
use Rattle.std.proofs.lemmas.Bool.Decides.{Decides-eqb, nat_tests}
use Rattle.meaning.specs.Limits.{row_group_rows}
use Rattle.blocks.specs.declared.kind.Kind.{Kind}
use Rattle.blocks.specs.declared.kind.Kind.TheVariants as kind
use Rattle.blocks.specs.Block.{Block, body_of, is_block, is_body, count_of, entry_bytes, run_lengths, run_value_bytes}
use Rattle.blocks.specs.RunsView.{runs_in}
use Rattle.bit_packing.proofs.Chunks.{length-shorts}
use Rattle.blocks.proofs.Blocks.{block_body}
use Rattle.blocks.proofs.Ends.{length-values_form}
use Rattle.block_predicates.specs.declared.entries.Entries.{Entries}
use Rattle.block_predicates.specs.declared.entries.Entries.TheVariants as entries
use Rattle.block_predicates.specs.Entries.{AreEntriesOf, entries_by, entries_in, has_entries, lane_count, rows_in, rows_long, values_in}

pub no_entries : (k : Kind) → (k ≡ kind.Dict → ⊥) → (k ≡ kind.Runs → ⊥) → has_entries k ≡ false
no_entries kind.Plain one two = refl
no_entries kind.Dict one two = absurd (one refl)
no_entries kind.Runs one two = absurd (two refl)
no_entries kind.Frame one two = refl

-- what is lent are the block's entries
pub lent_are : (b : Block) (lent : Entries) → AreEntriesOf b lent → values_in lent ≡ entries_in b
lent_are b (entries.Dictionary d) of = ap (λ x. x.entries) of.1 ∙ sym (ap (λ (k : Kind). entries_by k b) of.0)
lent_are b (entries.Runs r) of = ap (λ x. x.values) of.1 ∙ sym (ap (λ (k : Kind). entries_by k b) of.0)

pub lent_kind : (b : Block) (lent : Entries) → AreEntriesOf b lent → has_entries b.kind ≡ true
lent_kind b (entries.Dictionary d) of = ap has_entries of.0
lent_kind b (entries.Runs r) of = ap has_entries of.0

-- ---- how many

few_entries : (k : Kind) (b : Block) → is_body k b.col_type b.rows (body_of b) ≡ true → length (entries_by k b) ≤ b.rows
few_entries kind.Plain b body = omega arith
few_entries kind.Frame b body = omega arith
few_entries kind.Dict b body =
    let one = and_parts (nat_le (4 + 2 * b.rows) (length (body_of b))) _ body in
    let two = and_parts (nat_le 1 (count_of (body_of b))) _ one.1 in
    let three = (and_parts (nat_le (count_of (body_of b)) b.rows) _ two.1).0 in
    let long = length-values_form b.col_type (count_of (body_of b)) (entry_bytes b.rows (body_of b)) in
    let few : count_of (body_of b) ≤ b.rows = grind (arith, nat_tests) in
    omega (arith, few, long)
few_entries kind.Runs b body =
    let one = and_parts (nat_le 4 (length (body_of b))) _ body in
    let two = and_parts (nat_le 1 (count_of (body_of b))) _ one.1 in
    let three = (and_parts (nat_le (count_of (body_of b)) b.rows) _ two.1).0 in
    let long = length-values_form b.col_type (count_of (body_of b)) (run_value_bytes (body_of b)) in
    let few : count_of (body_of b) ≤ b.rows = grind (arith, nat_tests) in
    omega (arith, few, long)

few_rows : (b : Block) → is_block b ≡ true → b.rows ≤ row_group_rows
few_rows b sound =
    let one = and_parts (nat_le 1 b.rows) _ sound in
    let two = (and_parts (nat_le b.rows row_group_rows) _ one.1).0 in
    grind (arith, nat_tests)

one_or_none : (nullable : Bool) → (if nullable then 1 else 0) ≤ 1
one_or_none true = omega arith
one_or_none false = omega arith

pub few_lanes : (b : Block) → is_block b ≡ true → lane_count b ≤ 8193
few_lanes b sound =
    let few = few_entries b.kind b (block_body b sound) in
    let rows = few_rows b sound in
    let more = one_or_none b.nullable in
    omega (arith, few, rows, more)

-- ---- runs

all_rows : (b : Block) → is_body kind.Runs b.col_type b.rows (body_of b) ≡ true → sum (runs_in b).lengths ≡ b.rows
all_rows b body =
    let one = and_parts (nat_le 4 (length (body_of b))) _ body in
    let two = and_parts (nat_le 1 (count_of (body_of b))) _ one.1 in
    let three = and_parts (nat_le (count_of (body_of b)) b.rows) _ two.1 in
    let four = and_parts (nat_le (4 + 2 * count_of (body_of b)) (length (body_of b))) _ three.1 in
    let five = and_parts (list_all (λ n. nat_le 1 n) (run_lengths (body_of b))) _ four.1 in
    let six = and_parts (sum (run_lengths (body_of b)) == b.rows) _ five.1 in
    (Decides-eqb (sum (run_lengths (body_of b))) b.rows).0 six.0

pub rows_few : (b : Block) (lent : Entries) → is_block b ≡ true → AreEntriesOf b lent → rows_in lent ≤ row_group_rows
rows_few b (entries.Dictionary d) sound of = omega arith
rows_few b (entries.Runs r) sound of =
    let body = subst (λ (k : Kind). is_body k b.col_type b.rows (body_of b) ≡ true) of.0 (block_body b sound) in
    let all = ap (λ x. sum x.lengths) of.1 ∙ all_rows b body in
    let few = few_rows b sound in
    omega (arith, all, few)

pub lanes_enough : (b : Block) (lent : Entries) (n : ℕ) → AreEntriesOf b lent → n ≡ lane_count b → rows_long lent n
lanes_enough b (entries.Dictionary d) n of counted = tt
lanes_enough b (entries.Runs r) n of counted =
    let values = ap (λ (k : Kind). length (entries_by k b)) of.0 ∙ length-values_form b.col_type (count_of (body_of b)) (run_value_bytes (body_of b)) in
    let lengths = ap (λ x. length x.lengths) of.1 ∙ length-shorts (count_of (body_of b)) (drop 4 (body_of b)) in
    omega (arith, values, lengths, counted)
