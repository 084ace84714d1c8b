-- Names, columns and headers: what is read is spelled so and in its form, and what is in its form and spelled is read again.
use Rattle.std.proofs.Common.{◌≡◌, ◌≢◌, ℕ, zero, suc, ◌≤◌, ◌<◌, Bool, true, false, ◌&&◌, cond, eqb, List, [], ◌∷◌, ◌++◌, length, map, get_or, All, AllPairs, Result, Ok, Err, refl, sym, ap, subst, ◌∙◌, append_assoc, arith}
use Rattle.std.specs.Prelude.{not, nat_le}
use Rattle.std.specs.List.{flat_map, AllByRecursion}
use Rattle.std.specs.Cmp.Lexicographic.{bytes_decides}
use Rattle.std.proofs.lemmas.Bool.{and_parts, or_parts, eqb-true, leb-true, le-leb}
use Rattle.std.proofs.lemmas.List.{append-nil}
use Rattle.std.proofs.lemmas.List.Concat.{flat_map-cons}
use Rattle.std.proofs.lemmas.List.Elements.{All-from_recursion, recursion_from_All}
use Rattle.std.proofs.lemmas.List.Quantifiers.{all_pairs_push}
use Rattle.meaning.specs.declared.value.ColType.{ColType}
use Rattle.meaning.specs.declared.value.ColType.TheVariants as of_type
use Rattle.meaning.specs.declared.catalog.Column.{Column}
use Rattle.meaning.specs.Catalog.{is_name, IsName}
use Rattle.meaning.specs.Limits.{max_columns, max_name_bytes, max_rows}
use Rattle.meaning.proofs.Tests.{both, not_true}
use Rattle.fragment_file.specs.declared.fault.FileFault.{FileFault}
use Rattle.fragment_file.specs.declared.fault.FileFault.TheVariants as refusal
use Rattle.fragment_file.specs.declared.header.Header.{Header}
use Rattle.wire.specs.Reading.{◌>>=◌, Read, same_bytes, bytes_at, number_at}
use Rattle.meaning.specs.TypeCodes.{type_code}
use Rattle.fragment_file.specs.Fragment.{IsHeader, name_bytes, column_bytes, header_bytes}
use Rattle.wire.specs.Bytes.{number_bytes}
use Rattle.fragment_file.specs.FragmentReading.{within, formed, name_at, type_of, flag_of, is_named, column_at, columns_at, header_at}
use Rattle.wire.proofs.Numbers.{bind_ok, test_passed, ok_is, IsBytes, Takes, Takes-then, bytes_take, bytes_again, number_takes, number_again}
use Rattle.fragment_file.proofs.FromWire.{read_ok}
use Rattle.fragment_file.specs.Fault.{from_wire}

-- a test that was passed on the way
pub passed : {X Y : Type 0} (b : Bool) (d : FileFault) (x : X) (next : X → Result Y FileFault) (y : Y) → (cond b (Ok x) (Err d) >>= next) ≡ Ok y → (b ≡ true) × (next x ≡ Ok y)
passed true d x next y e = (refl, e)
passed false d x next y e = absurd cc

-- ---- names

pub name_takes : (bytes : List ℕ) (p : List ℕ × List ℕ) → IsBytes bytes → name_at bytes ≡ Ok p → Takes bytes (name_bytes p.0) p.1 × IsName p.0
unfolding name_at name_bytes
name_takes bytes p fits e =
    let a = read_ok (number_at 2 bytes) (λ n. within (nat_le 1 n.0 && nat_le n.0 max_name_bytes) n >>= λ n. from_wire (bytes_at n.0 n.1) >>= λ name. formed (is_name name.0) name) p e in
    let w = passed (nat_le 1 a.0.0 && nat_le a.0.0 max_name_bytes) refusal.Limit a.0 (λ n. from_wire (bytes_at n.0 n.1) >>= λ name. formed (is_name name.0) name) p a.2 in
    let b = read_ok (bytes_at a.0.0 a.0.1) (λ name. formed (is_name name.0) name) p w.1 in
    let f = test_passed (is_name b.0.0) refusal.Header (Ok b.0) p b.2 in
    let few = leb-true _ _ (and_parts (nat_le 1 a.0.0) (nat_le a.0.0 max_name_bytes) w.0).1 in
    let number = number_takes 2 bytes a.0.0 a.0.1 fits a.1 in
    let text = bytes_take a.0.0 a.0.1 b.0.0 b.0.1 number.0.rest_fits b.1 in
    let len = text.1 in
    let both = Takes-then bytes (number_bytes 2 a.0.0) a.0.1 b.0.0 b.0.1 number.0 text.0 in
    let whole : Takes bytes (number_bytes 2 (length b.0.0) ++ b.0.0) b.0.1 = subst (λ (k : ℕ). Takes bytes (number_bytes 2 k ++ b.0.0) b.0.1) (sym len) both in
    let short : length b.0.0 ≤ max_name_bytes = omega (arith, len, few) in
    subst (λ (q : List ℕ × List ℕ). Takes bytes (number_bytes 2 (length q.0) ++ q.0) q.1 × IsName q.0) (ok_is b.0 p f.1) (whole, record { word = f.0; short = short })

some_byte : (name : List ℕ) → is_name name ≡ true → 1 ≤ length name
some_byte [] is = absurd cc
some_byte (b ∷ bs) is = omega arith

pub name_again : (name rest : List ℕ) → IsName name → name_at (name_bytes name ++ rest) ≡ Ok (name, rest)
unfolding name_at name_bytes
name_again name rest is =
    let few = is.short in
    let counted = both _ _ (le-leb 1 (length name) (some_byte name is.word)) (le-leb (length name) max_name_bytes few) in
    ap name_at (append_assoc (number_bytes 2 (length name)) name rest)
    ∙ rw (number_again 2 (length name) (name ++ rest) (omega (arith, few)), counted, bytes_again (length name) name rest refl, is.word) refl

-- ---- columns

type_case : (b : Bool) (n c : ℕ) → (b ≡ true → n ≡ c) → (x : ColType) (more : Result ColType FileFault) (y : ColType) → type_code x ≡ c → (more ≡ Ok y → type_code y ≡ n)
    → cond b (Ok x) more ≡ Ok y → type_code y ≡ n
type_case true n c is x more y same next e = ap type_code (sym (ok_is x y e)) ∙ same ∙ sym (is refl)
type_case false n c is x more y same next e = next e

type_from : (n : ℕ) (t : ColType) → type_of n ≡ Ok t → type_code t ≡ n
type_from n t e =
    type_case (eqb n 1) n 1 (eqb-true n 1) of_type.Int _ t refl
    (type_case (eqb n 2) n 2 (eqb-true n 2) of_type.Text _ t refl (λ wrong. absurd cc)) e

type_again : (t : ColType) → type_of (type_code t) ≡ Ok t
type_again of_type.Int = refl
type_again of_type.Text = refl

type_fits : (t : ColType) → type_code t < 256
type_fits of_type.Int = omega arith
type_fits of_type.Text = omega arith

abbrev flag_code : Bool → ℕ
flag_code b = cond b 1 0

flag_case : (b : Bool) (n c : ℕ) → (b ≡ true → n ≡ c) → (x : Bool) (more : Result Bool FileFault) (y : Bool) → flag_code x ≡ c → (more ≡ Ok y → flag_code y ≡ n)
    → cond b (Ok x) more ≡ Ok y → flag_code y ≡ n
flag_case true n c is x more y same next e = ap flag_code (sym (ok_is x y e)) ∙ same ∙ sym (is refl)
flag_case false n c is x more y same next e = next e

flag_from : (n : ℕ) (b : Bool) → flag_of n ≡ Ok b → flag_code b ≡ n
flag_from n b e =
    flag_case (eqb n 0) n 0 (eqb-true n 0) false _ b refl
    (flag_case (eqb n 1) n 1 (eqb-true n 1) true _ b refl (λ wrong. absurd cc)) e

flag_again : (b : Bool) → flag_of (flag_code b) ≡ Ok b
flag_again true = refl
flag_again false = refl

flag_fits : (b : Bool) → flag_code b < 256
flag_fits true = omega arith
flag_fits false = omega arith

-- a column that stands behind earlier ones
abbrev pub IsNew : List Column → Column → Type 0
IsNew earlier c = IsName c.name × (is_named c.name earlier ≡ false)

column_takes : (earlier : List Column) (bytes : List ℕ) (p : Column × List ℕ) → IsBytes bytes → column_at earlier bytes ≡ Ok p → Takes bytes (column_bytes p.0) p.1 × IsNew earlier p.0
unfolding column_at column_bytes
column_takes earlier bytes p fits e =
    let done : List ℕ → ColType → Bool → Column = λ name t b. record { name = name; col_type = t; nullable = b } in
    let a = bind_ok (name_at bytes) (λ name. formed (not (is_named name.0 earlier)) name >>= λ name. from_wire (number_at 1 name.1) >>= λ t. type_of t.0 >>= λ col_type. from_wire (number_at 1 t.1) >>= λ f. flag_of f.0 >>= λ nullable. Ok (done name.0 col_type nullable, f.1)) p e in
    let w = passed (not (is_named a.0.0 earlier)) refusal.Header a.0 (λ name. from_wire (number_at 1 name.1) >>= λ t. type_of t.0 >>= λ col_type. from_wire (number_at 1 t.1) >>= λ f. flag_of f.0 >>= λ nullable. Ok (done name.0 col_type nullable, f.1)) p a.2 in
    let b = read_ok (number_at 1 a.0.1) (λ t. type_of t.0 >>= λ col_type. from_wire (number_at 1 t.1) >>= λ f. flag_of f.0 >>= λ nullable. Ok (done a.0.0 col_type nullable, f.1)) p w.1 in
    let t = bind_ok (type_of b.0.0) (λ col_type. from_wire (number_at 1 b.0.1) >>= λ f. flag_of f.0 >>= λ nullable. Ok (done a.0.0 col_type nullable, f.1)) p b.2 in
    let d = read_ok (number_at 1 b.0.1) (λ f. flag_of f.0 >>= λ nullable. Ok (done a.0.0 t.0 nullable, f.1)) p t.2 in
    let f = bind_ok (flag_of d.0.0) (λ nullable. Ok (done a.0.0 t.0 nullable, d.0.1)) p d.2 in
    let name = name_takes bytes a.0 fits a.1 in
    let code = number_takes 1 a.0.1 b.0.0 b.0.1 name.0.rest_fits b.1 in
    let flag = number_takes 1 b.0.1 d.0.0 d.0.1 code.0.rest_fits d.1 in
    let code_is : Takes a.0.1 (number_bytes 1 (type_code t.0)) b.0.1 = subst (λ (n : ℕ). Takes a.0.1 (number_bytes 1 n) b.0.1) (sym (type_from b.0.0 t.0 t.1)) code.0 in
    let flag_is : Takes b.0.1 (number_bytes 1 (flag_code f.0)) d.0.1 = subst (λ (n : ℕ). Takes b.0.1 (number_bytes 1 n) d.0.1) (sym (flag_from d.0.0 f.0 f.1)) flag.0 in
    let one = Takes-then bytes (name_bytes a.0.0) a.0.1 (number_bytes 1 (type_code t.0)) b.0.1 name.0 code_is in
    let two = Takes-then bytes (name_bytes a.0.0 ++ number_bytes 1 (type_code t.0)) b.0.1 (number_bytes 1 (flag_code f.0)) d.0.1 one flag_is in
    let made : Column × List ℕ = (done a.0.0 t.0 f.0, d.0.1) in
    subst (λ (q : Column × List ℕ). Takes bytes (column_bytes q.0) q.1 × IsNew earlier q.0) (ok_is made p f.2) (two, (name.1, not_true _ w.0))

column_again : (earlier : List Column) (c : Column) (rest : List ℕ) → IsNew earlier c → column_at earlier (column_bytes c ++ rest) ≡ Ok (c, rest)
unfolding column_at column_bytes
column_again earlier c rest is =
    let name = name_bytes c.name in
    let code = number_bytes 1 (type_code c.col_type) in
    let flag = number_bytes 1 (flag_code c.nullable) in
    ap (column_at earlier) (append_assoc (name ++ code) flag rest ∙ append_assoc name code (flag ++ rest))
    ∙ rw (
      name_again c.name (code ++ (flag ++ rest)) is.0,
      is.1,
      number_again 1 (type_code c.col_type) (flag ++ rest) (type_fits c.col_type),
      type_again c.col_type,
      number_again 1 (flag_code c.nullable) rest (flag_fits c.nullable),
      flag_again c.nullable,
    ) refl

-- columns each of which is new behind those before it
abbrev pub AreNew : List Column → List Column → Type 0
AreNew earlier [] = Unit {0}
AreNew earlier (c ∷ cs) = IsNew earlier c × AreNew (earlier ++ c ∷ []) cs

-- what was read of columns behind earlier ones
record AreRead (n : ℕ) (earlier : List Column) (bytes : List ℕ) (p : List Column × List ℕ) : Type 0 where
  more : List Column
  all : p.0 ≡ earlier ++ more
  taken : Takes bytes (flat_map column_bytes more) p.1
  count : length more ≡ n
  new : AreNew earlier more

columns_takes : (n : ℕ) (earlier : List Column) (bytes : List ℕ) (p : List Column × List ℕ) → IsBytes bytes → columns_at n earlier bytes ≡ Ok p → AreRead n earlier bytes p
unfolding columns_at
columns_takes zero earlier bytes p fits e =
    subst (λ (q : List Column × List ℕ). AreRead 0 earlier bytes q) (ok_is (earlier, bytes) p e)
    (record { more = []; all = sym (append-nil earlier); taken = record { parts = refl; rest_fits = fits }; count = refl; new = tt })
columns_takes (suc n) earlier bytes p fits e =
    let a = bind_ok (column_at earlier bytes) (λ c. columns_at n (earlier ++ c.0 ∷ []) c.1) p e in
    let first = column_takes earlier bytes a.0 fits a.1 in
    let others = columns_takes n (earlier ++ a.0.0 ∷ []) a.0.1 p first.0.rest_fits a.2 in
    let both = Takes-then bytes (column_bytes a.0.0) a.0.1 (flat_map column_bytes others.more) p.1 first.0 others.taken in
    record {
      more = a.0.0 ∷ others.more;
      all = others.all ∙ append_assoc earlier (a.0.0 ∷ []) others.more;
      taken = subst (λ (t : List ℕ). Takes bytes t p.1) (sym (flat_map-cons column_bytes a.0.0 others.more)) both;
      count = ap suc others.count;
      new = (first.1, others.new);
    }

columns_again : (more earlier : List Column) (rest : List ℕ) → AreNew earlier more → columns_at (length more) earlier (flat_map column_bytes more ++ rest) ≡ Ok (earlier ++ more, rest)
unfolding columns_at
columns_again [] earlier rest new = ap (λ (cs : List Column). Ok (cs, rest)) (sym (append-nil earlier))
columns_again (c ∷ cs) earlier rest new =
    let regrouped : flat_map column_bytes (c ∷ cs) ++ rest ≡ column_bytes c ++ (flat_map column_bytes cs ++ rest) = ap (λ (t : List ℕ). t ++ rest) (flat_map-cons column_bytes c cs) ∙ append_assoc (column_bytes c) (flat_map column_bytes cs) rest in
    ap (columns_at (suc (length cs)) earlier) regrouped
    ∙ rw (column_again earlier c (flat_map column_bytes cs ++ rest) new.0) (columns_again cs (earlier ++ c ∷ []) rest new.1)
    ∙ ap (λ (all : List Column). Ok (all, rest)) (append_assoc earlier (c ∷ []) cs)

-- ---- names that differ

abbrev differ : List ℕ → List ℕ → Type 0
differ a b = a ≢ b

abbrev name_in : Column → List ℕ
name_in c = c.name

other_bytes : (a b : List ℕ) → a ≢ b → same_bytes a b ≡ false
other_bytes a b ne = elim (same_bytes a b) as (λ t. same_bytes a b ≡ t → t ≡ false) [ true ↦ λ e. absurd (ne ((bytes_decides a b).0 e)) | false ↦ λ e. refl ] refl

true_false : true ≡ false → ⊥
true_false e = cc

none_named : (name : List ℕ) (cs : List Column) → is_named name cs ≡ false → (k : ℕ) (d : List ℕ) → k < length (map name_in cs) → differ (get_or (map name_in cs) k d) name
none_named name [] none k d lt = absurd (omega arith)
none_named name (c ∷ cs) none zero d lt = λ same.
    let one : same_bytes c.name name ≡ false = (or_parts (same_bytes c.name name) (is_named name cs) none).0 in
    let two : same_bytes c.name name ≡ true = (bytes_decides c.name name).1 same in
    true_false (sym two ∙ one)
none_named name (c ∷ cs) none (suc k) d lt = none_named name cs (or_parts (same_bytes c.name name) (is_named name cs) none).1 k d (omega arith)

mapped_push : (cs : List Column) (c : Column) → map name_in (cs ++ c ∷ []) ≡ map name_in cs ++ c.name ∷ []
mapped_push [] c = refl
mapped_push (x ∷ cs) c = ap (λ (names : List (List ℕ)). x.name ∷ names) (mapped_push cs c)

pub apart_from_new : (earlier more : List Column) → AreNew earlier more → AllPairs differ (map name_in earlier) → AllPairs differ (map name_in (earlier ++ more))
apart_from_new earlier [] new apart = subst (λ (cs : List Column). AllPairs differ (map name_in cs)) (sym (append-nil earlier)) apart
apart_from_new earlier (c ∷ cs) new apart =
    let pushed = all_pairs_push differ (map name_in earlier) c.name apart (none_named c.name earlier new.0.1) in
    let here : AllPairs differ (map name_in (earlier ++ c ∷ [])) = subst (AllPairs differ) (sym (mapped_push earlier c)) pushed in
    subst (λ (all : List Column). AllPairs differ (map name_in all)) (append_assoc earlier (c ∷ []) cs) (apart_from_new (earlier ++ c ∷ []) cs new.1 here)

pub names_from_new : (earlier more : List Column) → AreNew earlier more → AllByRecursion (λ c. IsName c.name) more
names_from_new earlier [] new = tt
names_from_new earlier (c ∷ cs) new = (new.0.0, names_from_new (earlier ++ c ∷ []) cs new.1)

at_end : (ds : List Column) (c : Column) (cs : List Column) (d : List ℕ) → get_or (map name_in (ds ++ c ∷ cs)) (length ds) d ≡ c.name
at_end [] c cs d = refl
at_end (x ∷ ds) c cs d = at_end ds c cs d

shorter : (ds : List Column) (c : Column) (cs : List Column) → length ds < length (map name_in (ds ++ c ∷ cs))
shorter [] c cs = omega arith
shorter (x ∷ ds) c cs = let less = shorter ds c cs in omega (arith, less)

unnamed : (earlier : List Column) (c : Column) (cs : List Column) → AllPairs differ (map name_in (earlier ++ c ∷ cs)) → is_named c.name earlier ≡ false
unnamed [] c cs apart = refl
unnamed (x ∷ ds) c cs apart =
    let less = shorter ds c cs in
    let other : differ x.name c.name = λ same. apart 0 (suc (length ds)) [] (omega arith) (omega (arith, less)) (same ∙ sym (at_end ds c cs [])) in
    let one = other_bytes x.name c.name other in
    let two = unnamed ds c cs (λ i j d before within. apart (suc i) (suc j) d (omega arith) (omega arith)) in
    rw (one, two) refl

new_from_apart : (earlier more : List Column) → AllPairs differ (map name_in (earlier ++ more)) → AllByRecursion (λ c. IsName c.name) more → AreNew earlier more
new_from_apart earlier [] apart named = tt
new_from_apart earlier (c ∷ cs) apart named = (
  (named.0, unnamed earlier c cs apart),
  new_from_apart (earlier ++ c ∷ []) cs (subst (λ (all : List Column). AllPairs differ (map name_in all)) (sym (append_assoc earlier (c ∷ []) cs)) apart) named.1,
)

-- ---- headers

abbrev header_of : ℕ → List ℕ → ℕ → ℕ → ℕ → List Column → Header
header_of load table k first rows columns = record { load = load; table = table; fragment = k; first_row = first; rows = rows; columns = columns }

abbrev behind_columns : ℕ → List ℕ → ℕ → ℕ → ℕ → List Column × List ℕ → Read FileFault Header
behind_columns load table k first rows columns = Ok (header_of load table k first rows columns.0, columns.1)

abbrev behind_counted : ℕ → List ℕ → ℕ → ℕ → ℕ → ℕ × List ℕ → Read FileFault Header
behind_counted load table k first rows n = columns_at n.0 [] n.1 >>= behind_columns load table k first rows

abbrev behind_count : ℕ → List ℕ → ℕ → ℕ → ℕ → ℕ × List ℕ → Read FileFault Header
behind_count load table k first rows n = within (nat_le 1 n.0 && nat_le n.0 max_columns) n >>= behind_counted load table k first rows

abbrev behind_kept : ℕ → List ℕ → ℕ → ℕ → ℕ × List ℕ → Read FileFault Header
behind_kept load table k first rows = from_wire (number_at 2 rows.1) >>= behind_count load table k first rows.0

abbrev behind_rows : ℕ → List ℕ → ℕ → ℕ → ℕ × List ℕ → Read FileFault Header
behind_rows load table k first rows = within (nat_le rows.0 max_rows) rows >>= behind_kept load table k first

abbrev behind_first : ℕ → List ℕ → ℕ → ℕ × List ℕ → Read FileFault Header
behind_first load table k first = from_wire (number_at 4 first.1) >>= behind_rows load table k first.0

abbrev behind_fragment : ℕ → List ℕ → ℕ × List ℕ → Read FileFault Header
behind_fragment load table k = from_wire (number_at 8 k.1) >>= behind_first load table k.0

abbrev behind_table : ℕ → List ℕ × List ℕ → Read FileFault Header
behind_table load table = from_wire (number_at 4 table.1) >>= behind_fragment load table.0

abbrev behind_load : ℕ × List ℕ → Read FileFault Header
behind_load load = name_at load.1 >>= behind_table load.0

pub header_takes : (bytes : List ℕ) (p : Header × List ℕ) → IsBytes bytes → header_at bytes ≡ Ok p → Takes bytes (header_bytes p.0) p.1 × IsHeader p.0
unfolding header_at header_bytes
header_takes bytes p fits e =
    let a = read_ok (number_at 8 bytes) behind_load p e in
    let b = bind_ok (name_at a.0.1) (behind_table a.0.0) p a.2 in
    let c = read_ok (number_at 4 b.0.1) (behind_fragment a.0.0 b.0.0) p b.2 in
    let d = read_ok (number_at 8 c.0.1) (behind_first a.0.0 b.0.0 c.0.0) p c.2 in
    let r = read_ok (number_at 4 d.0.1) (behind_rows a.0.0 b.0.0 c.0.0 d.0.0) p d.2 in
    let limit = passed (nat_le r.0.0 max_rows) refusal.Limit r.0 (behind_kept a.0.0 b.0.0 c.0.0 d.0.0) p r.2 in
    let n = read_ok (number_at 2 r.0.1) (behind_count a.0.0 b.0.0 c.0.0 d.0.0 r.0.0) p limit.1 in
    let counted = passed (nat_le 1 n.0.0 && nat_le n.0.0 max_columns) refusal.Limit n.0 (behind_counted a.0.0 b.0.0 c.0.0 d.0.0 r.0.0) p n.2 in
    let f = bind_ok (columns_at n.0.0 [] n.0.1) (behind_columns a.0.0 b.0.0 c.0.0 d.0.0 r.0.0) p counted.1 in
    let load = number_takes 8 bytes a.0.0 a.0.1 fits a.1 in
    let table = name_takes a.0.1 b.0 load.0.rest_fits b.1 in
    let fragment = number_takes 4 b.0.1 c.0.0 c.0.1 table.0.rest_fits c.1 in
    let first = number_takes 8 c.0.1 d.0.0 d.0.1 fragment.0.rest_fits d.1 in
    let rows = number_takes 4 d.0.1 r.0.0 r.0.1 first.0.rest_fits r.1 in
    let count = number_takes 2 r.0.1 n.0.0 n.0.1 rows.0.rest_fits n.1 in
    let columns = columns_takes n.0.0 [] n.0.1 f.0 count.0.rest_fits f.1 in
    let all : f.0.0 ≡ columns.more = columns.all in
    let length_is : length f.0.0 ≡ n.0.0 = ap length all ∙ columns.count in
    let counted_is : Takes r.0.1 (number_bytes 2 (length f.0.0)) n.0.1 = subst (λ (x : ℕ). Takes r.0.1 (number_bytes 2 x) n.0.1) (sym length_is) count.0 in
    let columns_is : Takes n.0.1 (flat_map column_bytes f.0.0) f.0.1 = subst (λ (cs : List Column). Takes n.0.1 (flat_map column_bytes cs) f.0.1) (sym all) columns.taken in
    let t1 = number_bytes 8 a.0.0 in
    let t2 = t1 ++ name_bytes b.0.0 in
    let t3 = t2 ++ number_bytes 4 c.0.0 in
    let t4 = t3 ++ number_bytes 8 d.0.0 in
    let t5 = t4 ++ number_bytes 4 r.0.0 in
    let t6 = t5 ++ number_bytes 2 (length f.0.0) in
    let p2 = Takes-then bytes t1 a.0.1 (name_bytes b.0.0) b.0.1 load.0 table.0 in
    let p3 = Takes-then bytes t2 b.0.1 (number_bytes 4 c.0.0) c.0.1 p2 fragment.0 in
    let p4 = Takes-then bytes t3 c.0.1 (number_bytes 8 d.0.0) d.0.1 p3 first.0 in
    let p5 = Takes-then bytes t4 d.0.1 (number_bytes 4 r.0.0) r.0.1 p4 rows.0 in
    let p6 = Takes-then bytes t5 r.0.1 (number_bytes 2 (length f.0.0)) n.0.1 p5 counted_is in
    let p7 = Takes-then bytes t6 n.0.1 (flat_map column_bytes f.0.0) f.0.1 p6 columns_is in
    let limits = and_parts (nat_le 1 n.0.0) (nat_le n.0.0 max_columns) counted.0 in
    let some = leb-true _ _ limits.0 in
    let few = leb-true _ _ limits.1 in
    let named = names_from_new [] columns.more columns.new in
    let apart = apart_from_new [] columns.more columns.new (λ i j d before within. absurd (omega arith)) in
    let header : IsHeader (header_of a.0.0 b.0.0 c.0.0 d.0.0 r.0.0 f.0.0) = record {
      load = load.1;
      table = table.1;
      fragment = fragment.1;
      first_row = first.1;
      rows = leb-true _ _ limit.0;
      some = omega (arith, some, length_is);
      few = omega (arith, few, length_is);
      columns = subst (λ (cs : List Column). All (λ c. IsName c.name) cs) (sym all) (All-from_recursion (λ c. IsName c.name) columns.more named);
      distinct = subst (λ (cs : List Column). AllPairs differ (map name_in cs)) (sym all) apart;
    } in
    let made : Header × List ℕ = (header_of a.0.0 b.0.0 c.0.0 d.0.0 r.0.0 f.0.0, f.0.1) in
    subst (λ (q : Header × List ℕ). Takes bytes (header_bytes q.0) q.1 × IsHeader q.0) (ok_is made p f.2) (p7, header)

pub header_again : (h : Header) (rest : List ℕ) → IsHeader h → header_at (header_bytes h ++ rest) ≡ Ok (h, rest)
unfolding header_at header_bytes
header_again h rest is =
    let load = number_bytes 8 h.load in
    let table = name_bytes h.table in
    let fragment = number_bytes 4 h.fragment in
    let first = number_bytes 8 h.first_row in
    let rows = number_bytes 4 h.rows in
    let count = number_bytes 2 (length h.columns) in
    let columns = flat_map column_bytes h.columns in
    let few = is.few in
    let many = is.rows in
    let counted = both _ _ (le-leb 1 (length h.columns) is.some) (le-leb (length h.columns) max_columns few) in
    let new = new_from_apart [] h.columns is.distinct (recursion_from_All (λ c. IsName c.name) h.columns is.columns) in
    ap header_at (append_assoc (load ++ table ++ fragment ++ first ++ rows ++ count) columns rest ∙ append_assoc (load ++ table ++ fragment ++ first ++ rows) count (columns ++ rest) ∙ append_assoc (load ++ table ++ fragment ++ first) rows (count ++ (columns ++ rest)) ∙ append_assoc (load ++ table ++ fragment) first (rows ++ (count ++ (columns ++ rest))) ∙ append_assoc (load ++ table) fragment (first ++ (rows ++ (count ++ (columns ++ rest)))) ∙ append_assoc load table (fragment ++ (first ++ (rows ++ (count ++ (columns ++ rest))))))
    ∙ rw (
      number_again 8 h.load (table ++ (fragment ++ (first ++ (rows ++ (count ++ (columns ++ rest)))))) is.load,
      name_again h.table (fragment ++ (first ++ (rows ++ (count ++ (columns ++ rest))))) is.table,
      number_again 4 h.fragment (first ++ (rows ++ (count ++ (columns ++ rest)))) is.fragment,
      number_again 8 h.first_row (rows ++ (count ++ (columns ++ rest))) is.first_row,
      number_again 4 h.rows (count ++ (columns ++ rest)) (omega (arith, many)),
      le-leb h.rows max_rows many,
      number_again 2 (length h.columns) (columns ++ rest) (omega (arith, few)),
      counted,
      columns_again h.columns [] rest new,
    ) refl
