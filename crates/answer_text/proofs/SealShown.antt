-- What is shown up to a seal.
use Rattle.std.proofs.Common.{◌≡◌, ◌++◌, ◌∙◌, List, ℕ, append-nil, append_assoc, ap, refl, subst, sym}
use Rattle.std.specs.Prelude.{Result, Ok, Err, string_bytes}
use Rattle.wire.specs.Reading.{◌>>=◌, Read}
use Rattle.answer_fields.specs.LayoutReading.{JobFields}
use Rattle.answer_fields.specs.declared.fault.DecodeFault.{DecodeFault}
use Rattle.answer_text.specs.declared.damage.Stop.{Stop}
use Rattle.answer_text.specs.Reading.{Shows, Takes, seal_at}

pub shows_sealed : {Y : Type 0} (whole : List ℕ) (read : Read DecodeFault Y) (text : Y → List ℕ) (y : Y) (between : List ℕ) → read ≡ Ok (y, between) → (r : Result (Unit {0}) Stop) (old new rest : List ℕ) → new ≡ old ++ text y
    → Takes (λ u. u) r rest (seal_at whole between) → Shows text r old new rest (read >>= λ b. seal_at whole b.1 >>= λ s. Ok (b.0, s.1))
shows_sealed whole read text y between is (Ok done) old new rest shown seal = (y, rw (is, seal) refl, shown)
shows_sealed whole read text y between is (Err e) old new rest shown seal = λ other. rw (is, seal) refl
