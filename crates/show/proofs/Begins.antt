-- What stands at the front of the file of an answer or a state.
use Rattle.std.proofs.Common.{◌≡◌, Bool, true, false, ℕ, List, [], ◌∷◌, take, drop, length, ltb, sym, ap, ◌∙◌}
use Rattle.std.specs.Prelude.{Option, None, Some, Result, Ok, Err, option_map, nat_eq, if◌then◌else◌}
use Rattle.std.specs.List.{starts_with}
use Rattle.std.specs.Result.{result_ok}
use Rattle.wire.specs.Reading.{◌>>=◌, bytes_at}
use Rattle.wire.specs.declared.fault.WireFault.TheVariants.{Truncated}
use Rattle.answer_fields.proofs.FromWire.{read_ok}
use Rattle.wire.proofs.Numbers.{bind_ok, ok_is, test_kept}
use Rattle.answer_fields.specs.declared.fault.DecodeFault.{DecodeFault}
use Rattle.answer_fields.specs.declared.format.Content.{Content}
use Rattle.answer_fields.specs.declared.format.Content.TheVariants as content
use Rattle.answer_fields.specs.declared.format.Format.{Format}
use Rattle.answer_fields.specs.Format.{format_at, format_in, format_of}
use Rattle.show.specs.Shown.{kind_of, spelled_in}
use Rattle.show.specs.declared.file_kind.FileKind.{FileKind}
use Rattle.show.specs.declared.file_kind.FileKind.TheVariants as kind

spelled_as : (answer state : Option Format) (format : Format) → spelled_in answer state ≡ Some (kind.Answer format) → answer ≡ Some format
spelled_as (Some f) state format is = let same : kind.Answer f ≡ kind.Answer format = cc is in let one : f ≡ format = cc same in ap (λ x. Some x) one
spelled_as None (Some f) format is = let bad : kind.State f ≡ kind.Answer format = cc is in absurd (cc bad)
spelled_as None None format is = absurd cc

spelled_as_state : (answer state : Option Format) (format : Format) → spelled_in answer state ≡ Some (kind.State format) → state ≡ Some format
spelled_as_state (Some f) state format is = let bad : kind.Answer f ≡ kind.State format = cc is in absurd (cc bad)
spelled_as_state None (Some f) format is = let same : kind.State f ≡ kind.State format = cc is in let one : f ≡ format = cc same in ap (λ x. Some x) one
spelled_as_state None None format is = absurd cc

passed : (b : Bool) (k : FileKind) (more : Option FileKind) (other : FileKind) → (k ≡ other → ⊥) → (if b then Some k else more) ≡ Some other → more ≡ Some other
passed true k more other apart is = let same : k ≡ other = cc is in absurd (apart same)
passed false k more other apart is = is

read_in : (read : Result (Format × List ℕ) DecodeFault) (format : Format) → option_map (λ x. x.0) (result_ok read) ≡ Some format → (behind : List ℕ) × (read ≡ Ok (format, behind))
read_in (Ok p) format is = let same : p.0 ≡ format = cc is in (p.1, ap (λ f. Ok (f, p.1)) same)
read_in (Err e) format is = absurd cc

pub four_behind : (bytes : List ℕ) (q : List ℕ × List ℕ) → bytes_at 4 bytes ≡ Ok q → q.1 ≡ drop 4 bytes
unfolding bytes_at
four_behind bytes q e =
    let g = test_kept (ltb (length bytes) 4) Truncated (Ok (take 4 bytes, drop 4 bytes)) q e in
    ap (λ (x : List ℕ × List ℕ). x.1) (sym (ok_is (take 4 bytes, drop 4 bytes) q g.1))

behind_four : (of : Content) (bytes : List ℕ) (p : Format × List ℕ) → format_at of bytes ≡ Ok p → p.1 ≡ drop 4 bytes
unfolding format_at
behind_four of bytes p is =
    let first = read_ok (bytes_at 4 bytes) (λ first. format_of of first.0 >>= λ format. Ok (format, first.1)) p is in
    let format = bind_ok (format_of of first.0.0) (λ format. Ok (format, first.0.1)) p first.2 in
    ap (λ (x : Format × List ℕ). x.1) (sym (ok_is (format.0, first.0.1) p format.2)) ∙ four_behind bytes first.0 first.1

begun : (bytes : List ℕ) (k : FileKind) → (kind.Table ≡ k → ⊥) → (kind.Cut ≡ k → ⊥) → (kind.Journal ≡ k → ⊥) → kind_of bytes ≡ Some k → spelled_in (format_in content.Answer bytes) (format_in content.State bytes) ≡ Some k
begun bytes k no_table no_cut no_journal is =
    passed (starts_with nat_eq bytes (88 ∷ 71 ∷ 74 ∷ 49 ∷ [])) kind.Journal _ k no_journal
    (passed (starts_with nat_eq bytes (88 ∷ 67 ∷ 76 ∷ 49 ∷ [])) kind.Cut _ k no_cut (passed (starts_with nat_eq bytes (88 ∷ 67 ∷ 70 ∷ 49 ∷ [])) kind.Table _ k no_table is))

pub begins_as_answer : (bytes : List ℕ) (format : Format) → kind_of bytes ≡ Some (kind.Answer format) → format_at content.Answer bytes ≡ Ok (format, drop 4 bytes)
begins_as_answer bytes format is =
    let here = begun bytes (kind.Answer format) (λ e. cc) (λ e. cc) (λ e. cc) is in
    let (behind, read) = read_in (format_at content.Answer bytes) format (spelled_as _ _ format here) in
    read ∙ ap (λ b. Ok (format, b)) (behind_four content.Answer bytes (format, behind) read)

pub begins_as_state : (bytes : List ℕ) (format : Format) → kind_of bytes ≡ Some (kind.State format) → format_at content.State bytes ≡ Ok (format, drop 4 bytes)
begins_as_state bytes format is =
    let here = begun bytes (kind.State format) (λ e. cc) (λ e. cc) (λ e. cc) is in
    let (behind, read) = read_in (format_at content.State bytes) format (spelled_as_state _ _ format here) in
    read ∙ ap (λ b. Ok (format, b)) (behind_four content.State bytes (format, behind) read)
