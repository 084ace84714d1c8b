-- What reading one record does to the records that are still to come.
use Rattle.std.proofs.Common.{◌≡◌, ℕ, Bool, true, false, List, [], ◌∷◌, Option, None, refl, sym, ap, ◌∙◌}
use Rattle.csv.specs.declared.parser.State.{State}
use Rattle.csv.specs.declared.reader.Reader.{Reader}
use Rattle.csv.specs.Machine.{Read, next_record}
use Rattle.csv.specs.Reading.{default_config, AreRecords, Reached, ReadRecord, ReadsOn, is_flexible}
use Rattle.csv.proofs.ReadFacts.{rows-end, rows-more}
use Rattle.meaning.specs.Records.{Record}
use Rattle.loader.specs.Source.{IsLeft, TakesNext}

-- where there is no next record, none is to come
none_come : (s : State) (xs : List ℕ) (rest : List Record) → AreRecords default_config s xs rest → next_record default_config s [] [] xs ≡ None → rest ≡ []
unfolding Reached
none_come s xs [] rows none = refl
none_come s xs (r ∷ rs) rows none =
    let (s2, ys, (p, e, same, more), end) = rows in
    cc (e, none)

-- the next record is the first of those to come
one_comes : (s s2 : State) (xs z : List ℕ) (rest : List Record) (f : Record) → AreRecords default_config s xs rest → Reached default_config s xs (f ∷ []) s2 z
    → (others : List Record) × (rest ≡ f ∷ others) × AreRecords default_config s2 z others
unfolding Reached
one_comes s s2 xs z [] f rows reached =
    let (s3, ys, (same_state, same_bytes), end) = rows in
    let (q, found, is, (at_state, at_bytes)) = reached in
    let none : next_record default_config s [] [] xs ≡ None = rw (same_state, same_bytes) end in
    cc (found, none)
one_comes s s2 xs z (r ∷ rs) f rows reached =
    let (s3, ys, (p, e, same, more), end) = rows in
    let (q, found, is, (at_state, at_bytes)) = reached in
    let alike : p ≡ q = cc (e, found) in
    let first : r ≡ f = same ∙ ap (λ (x : Read). x.0) alike ∙ sym is in
    let state_is : s2 ≡ p.1 = sym at_state ∙ sym (ap (λ (x : Read). x.1) alike) in
    let bytes_are : z ≡ p.2 = sym at_bytes ∙ sym (ap (λ (x : Read). x.2) alike) in
    (rs, ap (λ (x : Record). x ∷ rs) first, rw (state_is, bytes_are) (s3, ys, more, end))

pub takes : {R : Type 0} (known : R → Option (List ℕ)) (a b : Reader R) (rest : List Record) (found : Bool) (fields : Record)
    → IsLeft known a rest → ReadRecord known a b found fields → is_flexible b ≡ is_flexible a → (found ≡ true → ReadsOn a b) → TakesNext known b rest found fields
unfolding Reached
takes known a b rest true fields left reads flexible goes =
    let more = rows-more known a b fields default_config a.state left.bytes left.bytes [] left.config left.source (refl, refl) reads in
    let (others, first, rows) = one_comes a.state b.state left.bytes more.0 rest fields left.rows more.2 in
    let on = goes refl in (
      others,
      first,
      record {
        config = reads.2 ∙ left.config;
        untrimmed = on.1 ∙ left.untrimmed;
        flexible = flexible ∙ left.flexible;
        ready = (on.4 left.ready).0;
        bytes = more.0;
        source = more.1;
        rows = rows;
      },
    )
takes known a b rest false fields left reads flexible goes =
    none_come a.state left.bytes rest left.rows (rows-end known a b fields default_config left.bytes left.config left.source reads)
