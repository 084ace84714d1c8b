-- Groups in the bytes that they are packed into.
use Rattle.std.proofs.Common.{◌≡◌, ℕ, zero, suc, ◌+◌, ◌-◌, ◌≤◌, ◌<◌, true, false, cond, ltb, List, [], ◌∷◌, ◌++◌, length, get_or, min, take, drop, Ok, refl, ap, sym, ◌∙◌, append-nil, arith}
use Rattle.std.specs.List.{flat_map, AllByRecursion}
use Rattle.std.proofs.lemmas.List.{length-append, length-take, length-drop, take-append-drop}
use Rattle.std.proofs.lemmas.List.Concat.{flat_map-append}
use Rattle.meaning.specs.declared.answer.Group.{Group}
use Rattle.byteorder.specs.Numbers.{length-bytes_low_first}
use Rattle.wire.specs.Bytes.{number_bytes}
use Rattle.wire.specs.Reading.{repeat_at}
use Rattle.wire.proofs.Numbers.{ok_is}
use Rattle.wire.proofs.Parts.{repeat_again}
use Rattle.packed_groups.specs.Packing.{group_bytes, small_bytes, states_bytes, values_bytes}
use Rattle.packed_groups.specs.Reading.{group_at, packed_in}
use Rattle.packed_groups.specs.Packable.{IsPackableGroup, IsPacked}
use Rattle.packed_groups.proofs.Again.{group_again}

module _ {X : Type 0} (P : X → Type 0) where
  all_both : (xs ys : List X) → AllByRecursion P xs → AllByRecursion P ys → AllByRecursion P (xs ++ ys)
  all_both [] ys all behind = behind
  all_both (x ∷ xs) ys all behind = (all.0, all_both xs ys all.1 behind)

  one_more : (xs : List X) (x : X) → AllByRecursion P xs → P x → AllByRecursion P (xs ++ x ∷ [])
  one_more [] x all here = (here, tt)
  one_more (y ∷ xs) x all here = (all.0, one_more xs x all.1 here)

  -- the next behind the first of them
  pub all_next : (xs : List X) (i : ℕ) (d : X) → i < length xs → AllByRecursion P (take i xs) → P (get_or xs i d) → AllByRecursion P (take (suc i) xs)
  all_next [] i d lt all here = tt
  all_next (x ∷ xs) zero d lt all here = (here, tt)
  all_next (x ∷ xs) (suc i) d lt all here = (all.0, all_next xs i d (omega (arith, lt)) all.1 here)

  pub all_in_front : (n : ℕ) (xs : List X) → AllByRecursion P xs → AllByRecursion P (take n xs)
  all_in_front zero xs all = tt
  all_in_front (suc n) [] all = tt
  all_in_front (suc n) (x ∷ xs) all = (all.0, all_in_front n xs all.1)

  pub all_behind : (n : ℕ) (xs : List X) → AllByRecursion P xs → AllByRecursion P (drop n xs)
  all_behind zero xs all = all
  all_behind (suc n) [] all = tt
  all_behind (suc n) (x ∷ xs) all = all_behind n xs all.1

-- so many groups are read again from the front of their bytes
groups_again : (many : ℕ) (gs : List Group) (rest : List ℕ) → length gs ≡ many → AllByRecursion IsPackableGroup gs → repeat_at group_at many (flat_map group_bytes gs ++ rest) ≡ Ok (gs, rest)
groups_again many gs rest = repeat_again group_at group_bytes IsPackableGroup group_again many gs rest

whole_again : (many : ℕ) (gs : List Group) → length gs ≡ many → AllByRecursion IsPackableGroup gs → repeat_at group_at many (flat_map group_bytes gs) ≡ Ok (gs, [])
whole_again many gs len all = ap (repeat_at group_at many) (sym (append-nil (flat_map group_bytes gs))) ∙ groups_again many gs [] len all

-- groups that are packed are in their bytes
pub groups_back : (many : ℕ) (bytes : List ℕ) (p : IsPacked many bytes) → packed_in many bytes ≡ p.groups
groups_back many bytes p = rw (p.packed, whole_again many p.groups (sym p.count) p.packable) refl

pub groups_read : (many : ℕ) (bytes : List ℕ) → IsPacked many bytes → repeat_at group_at many bytes ≡ Ok (packed_in many bytes, [])
groups_read many bytes p =
    let read = ap (repeat_at group_at many) p.packed ∙ whole_again many p.groups (sym p.count) p.packable in
    rw read refl

pub many_packed : (many : ℕ) (bytes : List ℕ) → IsPacked many bytes → many ≡ length (packed_in many bytes)
many_packed many bytes p = p.count ∙ ap length (sym (groups_back many bytes p))

-- ---- what is made

pub packed_of : (gs : List Group) (bytes : List ℕ) → bytes ≡ flat_map group_bytes gs → AllByRecursion IsPackableGroup gs → IsPacked (length gs) bytes
packed_of gs bytes is all = record { groups = gs; packable = all; count = refl; packed = is }

pub groups_of : (gs : List Group) (bytes : List ℕ) → bytes ≡ flat_map group_bytes gs → AllByRecursion IsPackableGroup gs → packed_in (length gs) bytes ≡ gs
unfolding packed_of
groups_of gs bytes is all = groups_back (length gs) bytes (packed_of gs bytes is all)

pub packed_with : (many : ℕ) (bytes new : List ℕ) (g : Group) → new ≡ bytes ++ group_bytes g → IsPackableGroup g → IsPacked many bytes → IsPacked (many + 1) new
packed_with many bytes new g is fits p = record {
  groups = p.groups ++ g ∷ [];
  packable = one_more IsPackableGroup p.groups g p.packable fits;
  count = omega (arith, p.count, length-append p.groups (g ∷ []));
  packed = is ∙ ap (λ (bs : List ℕ). bs ++ group_bytes g) p.packed ∙ ap (λ (bs : List ℕ). flat_map group_bytes p.groups ++ bs) (sym (append-nil (group_bytes g))) ∙ sym (flat_map-append group_bytes p.groups (g ∷ []));
}

pub groups_with : (many : ℕ) (bytes new : List ℕ) (g : Group) → new ≡ bytes ++ group_bytes g → IsPackableGroup g → IsPacked many bytes → packed_in (many + 1) new ≡ packed_in many bytes ++ g ∷ []
unfolding packed_with
groups_with many bytes new g is fits p =
    groups_back (many + 1) new (packed_with many bytes new g is fits p) ∙ ap (λ (gs : List Group). gs ++ g ∷ []) (sym (groups_back many bytes p))

number_long : (n x : ℕ) → length (number_bytes n x) ≡ n
unfolding number_bytes
number_long n x = length-bytes_low_first 0 n x

small_long : (n : ℕ) → 1 ≤ length (small_bytes n)
unfolding small_bytes
small_long n =
    elim (ltb n 255) as (λ b. 1 ≤ length (cond b (number_bytes 1 n) (number_bytes 1 255 ++ number_bytes 8 n))) [
      | true ↦ omega (arith, number_long 1 n)
      | false ↦ omega (arith, number_long 1 255, length-append (number_bytes 1 255) (number_bytes 8 n))
    ]

-- each group takes a byte at least
group_long : (g : Group) → 1 ≤ length (group_bytes g)
unfolding group_bytes
group_long g =
    let key = values_bytes g.key in
    let rows = small_bytes g.rows in
    omega (arith, small_long g.rows, length-append key rows, length-append (key ++ rows) (states_bytes g.states))

bytes_long : (gs : List Group) → length gs ≤ length (flat_map group_bytes gs)
bytes_long [] = omega arith
bytes_long (g ∷ gs) =
    let far = length-append (group_bytes g) (flat_map group_bytes gs) in
    omega (arith, bytes_long gs, group_long g, far)

-- there is room to count one more
pub room_to_count : (many : ℕ) (bytes new : List ℕ) (g : Group) → new ≡ bytes ++ group_bytes g → IsPacked many bytes → many + 1 ≤ length new
room_to_count many bytes new g is p =
    let long = ap length is ∙ length-append bytes (group_bytes g) in
    omega (arith, long, group_long g, p.count, bytes_long p.groups, ap length p.packed)

-- ---- more behind them

pub packed_behind : (many : ℕ) (bytes new : List ℕ) (gs : List Group) → new ≡ bytes ++ flat_map group_bytes gs → AllByRecursion IsPackableGroup gs → IsPacked many bytes → IsPacked (many + length gs) new
packed_behind many bytes new gs is fits p = record {
  groups = p.groups ++ gs;
  packable = all_both IsPackableGroup p.groups gs p.packable fits;
  count = omega (arith, p.count, length-append p.groups gs);
  packed = is ∙ ap (λ (bs : List ℕ). bs ++ flat_map group_bytes gs) p.packed ∙ sym (flat_map-append group_bytes p.groups gs);
}

pub groups_behind : (many : ℕ) (bytes new : List ℕ) (gs : List Group) → new ≡ bytes ++ flat_map group_bytes gs → AllByRecursion IsPackableGroup gs → IsPacked many bytes → packed_in (many + length gs) new ≡ packed_in many bytes ++ gs
unfolding packed_behind
groups_behind many bytes new gs is fits p =
    groups_back (many + length gs) new (packed_behind many bytes new gs is fits p) ∙ ap (λ (before : List Group). before ++ gs) (sym (groups_back many bytes p))

-- there is room to count all
pub room_for : (many : ℕ) (bytes new : List ℕ) (gs : List Group) → new ≡ bytes ++ flat_map group_bytes gs → IsPacked many bytes → many + length gs ≤ length new
room_for many bytes new gs is p =
    let long = ap length is ∙ length-append bytes (flat_map group_bytes gs) in
    omega (arith, long, bytes_long gs, p.count, bytes_long p.groups, ap length p.packed)

-- ---- equal groups

pub same_bytes : (many others : ℕ) (one other : List ℕ) → IsPacked many one → IsPacked others other → packed_in many one ≡ packed_in others other → (many ≡ others) × (one ≡ other)
same_bytes many others one other p q same =
    let groups : p.groups ≡ q.groups = sym (groups_back many one p) ∙ same ∙ groups_back others other q in
    (p.count ∙ ap length groups ∙ sym q.count, p.packed ∙ ap (flat_map group_bytes) groups ∙ sym q.packed)

-- ---- a few from the front

-- what is left behind groups that were read from the front
pub record AreTaken (most many left : ℕ) (bytes : List ℕ) (gs : List Group) (rest : List ℕ) : Type 0 where
  pub taken : gs ≡ take most (packed_in left bytes)
  pub packed : IsPacked (left - many) rest
  pub others : packed_in (left - many) rest ≡ drop most (packed_in left bytes)

-- no more than there are
take_most : (many most : ℕ) (xs : List Group) → many ≡ min most (length xs) → take many xs ≡ take most xs
take_most zero zero xs e = refl
take_most zero (suc most) [] e = refl
take_most zero (suc most) (x ∷ xs) e = absurd (omega (arith, e))
take_most (suc many) zero xs e = absurd (omega (arith, e))
take_most (suc many) (suc most) [] e = absurd (omega (arith, e))
take_most (suc many) (suc most) (x ∷ xs) e = ap (λ gs. x ∷ gs) (take_most many most xs (omega (arith, e)))

drop_most : (many most : ℕ) (xs : List Group) → many ≡ min most (length xs) → drop many xs ≡ drop most xs
drop_most zero zero xs e = refl
drop_most zero (suc most) [] e = refl
drop_most zero (suc most) (x ∷ xs) e = absurd (omega (arith, e))
drop_most (suc many) zero xs e = absurd (omega (arith, e))
drop_most (suc many) (suc most) [] e = absurd (omega (arith, e))
drop_most (suc many) (suc most) (x ∷ xs) e = drop_most many most xs (omega (arith, e))

-- the first of them, and then the others
split : (many : ℕ) (gs : List Group) → flat_map group_bytes gs ≡ flat_map group_bytes (take many gs) ++ flat_map group_bytes (drop many gs)
split many gs = ap (flat_map group_bytes) (sym (take-append-drop many gs)) ∙ flat_map-append group_bytes (take many gs) (drop many gs)

pub groups_taken : (most many left : ℕ) (bytes : List ℕ) (gs : List Group) (rest : List ℕ) → many ≡ min most left → IsPacked left bytes
    → repeat_at group_at many bytes ≡ Ok (gs, rest) → AreTaken most many left bytes gs rest
groups_taken most many left bytes gs rest is p read =
    let all = p.groups in
    let fewer : many ≡ min most (length all) = is ∙ ap (min most) p.count in
    let len : length (take many all) ≡ many = omega (arith, length-take many all, fewer) in
    let again : repeat_at group_at many bytes ≡ Ok (take many all, flat_map group_bytes (drop many all)) =
    ap (repeat_at group_at many) (p.packed ∙ split many all) ∙ groups_again many (take many all) (flat_map group_bytes (drop many all)) len (all_in_front IsPackableGroup many all p.packable) in
    let same = ok_is (take many all, flat_map group_bytes (drop many all)) (gs, rest) (sym again ∙ read) in
    let back = groups_back left bytes p in
    let behind_them : IsPacked (left - many) rest = record {
      groups = drop many all;
      packable = all_behind IsPackableGroup many all p.packable;
      count = omega (arith, length-drop many all, p.count);
      packed = sym (ap (λ (x : List Group × List ℕ). x.1) same);
    } in
    record {
      taken = sym (ap (λ (x : List Group × List ℕ). x.0) same) ∙ take_most many most all fewer ∙ ap (take most) (sym back);
      packed = behind_them;
      others = groups_back (left - many) rest behind_them ∙ drop_most many most all fewer ∙ ap (drop most) (sym back);
    }

pub same_groups : (many others : ℕ) (one other : List ℕ) → many ≡ others → one ≡ other → packed_in many one ≡ packed_in others other
same_groups many others one other same_count same = rw (same_count, same) refl
