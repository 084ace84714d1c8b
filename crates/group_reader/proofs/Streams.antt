-- Row groups that come one after the other are those of the file that is read whole.
use Rattle.std.specs.Prelude.{◌≡◌, ℕ, suc, List, [], ◌∷◌, Option, Some, None, Result, Ok, Err}
use Rattle.std.proofs.Common.{refl, ap, ◌∙◌}
use Rattle.meaning.specs.declared.catalog.Column.{Column}
use Rattle.blocks.specs.Block.{Block}
use Rattle.wire.specs.Reading.{◌>>=◌, Read, behind_magic, bytes_at, sealed_end}
use Rattle.fragment_file.specs.declared.fault.FileFault.{FileFault}
use Rattle.fragment_file.specs.Fault.{from_wire}
use Rattle.fragment_file.specs.FragmentReading.{group_at, groups_at, header_at, read_fragment}
use Rattle.fragment_file.specs.declared.header.Header.{Header}
use Rattle.fragment_file.specs.Fragment.{FragmentSpec, fragment_magic, group_sizes}
use Rattle.group_reader.specs.Coming.{Coming, fault_in, end_behind, behind, coming_at, coming_behind, file_in_turn, whole_or, whole, sealed, ended}

-- the answer with a row group in front
abbrev and_before : List Block → Result (List (List Block)) FileFault → Result (List (List Block)) FileFault
and_before g (Ok groups) = Ok (g ∷ groups)
and_before g (Err e) = Err e

told : {X : Type 0} (groups : List (List Block)) (r : Result X FileFault) → whole_or groups (fault_in r) ≡ (r >>= (λ _. Ok groups))
told groups (Ok x) = refl
told groups (Err e) = refl

at_end : (all : List ℕ) (r : Read FileFault (List ℕ)) → whole_or [] (end_behind all r) ≡ sealed all [] r
at_end all (Ok seal) = told [] (from_wire (sealed_end all seal.0 seal.1))
at_end all (Err e) = refl

whole_more : (g : List Block) (groups : List (List Block)) (end : Option FileFault) → whole_or (g ∷ groups) end ≡ and_before g (whole_or groups end)
whole_more g groups None = refl
whole_more g groups (Some e) = refl

told_more : {X : Type 0} (g : List Block) (groups : List (List Block)) (r : Result X FileFault) → and_before g (r >>= (λ _. Ok groups)) ≡ (r >>= (λ _. Ok (g ∷ groups)))
told_more g groups (Ok x) = refl
told_more g groups (Err e) = refl

sealed_more : (all : List ℕ) (g : List Block) (groups : List (List Block)) (r : Read FileFault (List ℕ)) → and_before g (sealed all groups r) ≡ sealed all (g ∷ groups) r
sealed_more all g groups (Ok seal) = told_more g groups (from_wire (sealed_end all seal.0 seal.1))
sealed_more all g groups (Err e) = refl

ended_more : (all : List ℕ) (g : List Block) (r : Read FileFault (List (List Block))) → and_before g (ended all r) ≡ ended all (r >>= (λ others. Ok (g ∷ others.0, others.1)))
ended_more all g (Ok others) = sealed_more all g others.0 (from_wire (bytes_at 32 others.1))
ended_more all g (Err e) = refl

-- a row group more, or what is wrong with it
step : (all : List ℕ) (r : Read FileFault (List Block)) (next : List ℕ → Coming) (others : List ℕ → Read FileFault (List (List Block)))
    → ((left : List ℕ) → whole (next left) ≡ ended all (others left))
    → whole (behind r next) ≡ ended all (r >>= (λ g. others g.1 >>= (λ more. Ok (g.0 ∷ more.0, more.1))))
step all (Ok g) next others later =
    whole_more g.0 (next g.1).groups (next g.1).end ∙ ap (and_before g.0) (later g.1) ∙ ended_more all g.0 (others g.1)
step all (Err e) next others later = refl

pub streams_are_files : (group : ℕ) (columns : List Column) (sizes : List ℕ) (all rest : List ℕ)
    → whole (coming_at group columns sizes all rest) ≡ ended all (groups_at group columns sizes rest)
unfolding groups_at
streams_are_files group columns [] all rest = at_end all (from_wire (bytes_at 32 rest))
streams_are_files group columns (n ∷ sizes) all rest =
    step all (group_at group columns n rest) (λ left. coming_at (suc group) columns sizes all left) (λ left. groups_at (suc group) columns sizes left)
    (λ left. streams_are_files (suc group) columns sizes all left)

-- ---- a file

in_order : {E A B C : Type 0} (r : Result A E) (f : A → Result B E) (g : B → Result C E) → ((r >>= f) >>= g) ≡ (r >>= (λ x. f x >>= g))
in_order (Ok x) f g = refl
in_order (Err e) f g = refl

abbrev file_of : Header → List (List Block) → Result FragmentSpec FileFault
file_of header groups = Ok (record { header = header; groups = groups })

abbrev sealed_file : List ℕ → Header → List (List Block) × List ℕ → Result FragmentSpec FileFault
sealed_file all header groups = from_wire (bytes_at 32 groups.1) >>= (λ seal. from_wire (sealed_end all seal.0 seal.1) >>= (λ end. file_of header groups.0))

end_of_file : (all : List ℕ) (header : Header) (groups : List (List Block)) (seal : List ℕ × List ℕ)
    → ((from_wire (sealed_end all seal.0 seal.1) >>= (λ end. Ok groups)) >>= file_of header) ≡ (from_wire (sealed_end all seal.0 seal.1) >>= (λ end. file_of header groups))
end_of_file all header groups seal = in_order (from_wire (sealed_end all seal.0 seal.1)) (λ end. Ok groups) (file_of header)

ended_seal : (all : List ℕ) (header : Header) (groups : List (List Block)) (r : Read FileFault (List ℕ))
    → (sealed all groups r >>= file_of header) ≡ (r >>= (λ seal. from_wire (sealed_end all seal.0 seal.1) >>= (λ end. file_of header groups)))
ended_seal all header groups (Ok seal) = end_of_file all header groups seal
ended_seal all header groups (Err e) = refl

ended_whole : (all : List ℕ) (header : Header) (r : Read FileFault (List (List Block)))
    → (ended all r >>= file_of header) ≡ (r >>= sealed_file all header)
ended_whole all header (Ok groups) = ended_seal all header groups.0 (from_wire (bytes_at 32 groups.1))
ended_whole all header (Err e) = refl

turned : (bytes : List ℕ) (header : Header × List ℕ)
    → (whole (coming_behind bytes header.0 header.1) >>= file_of header.0) ≡ (groups_at 0 header.0.columns (group_sizes header.0.rows) header.1 >>= sealed_file bytes header.0)
turned bytes header =
    ap (λ (r : Result (List (List Block)) FileFault). r >>= file_of header.0) (streams_are_files 0 header.0.columns (group_sizes header.0.rows) bytes header.1)
    ∙ ended_whole bytes header.0 (groups_at 0 header.0.columns (group_sizes header.0.rows) header.1)

turned_header : (bytes : List ℕ) (r : Read FileFault Header)
    → (r >>= (λ header. whole (coming_behind bytes header.0 header.1) >>= file_of header.0)) ≡ (r >>= (λ header. groups_at 0 header.0.columns (group_sizes header.0.rows) header.1 >>= sealed_file bytes header.0))
turned_header bytes (Ok header) = turned bytes header
turned_header bytes (Err e) = refl

turned_file : (bytes : List ℕ) (r : Result (List ℕ) FileFault)
    → ((r >>= header_at) >>= (λ header. whole (coming_behind bytes header.0 header.1) >>= file_of header.0))
    ≡ (r >>= (λ rest. header_at rest >>= (λ header. groups_at 0 header.0.columns (group_sizes header.0.rows) header.1 >>= sealed_file bytes header.0)))
turned_file bytes (Ok rest) = turned_header bytes (header_at rest)
turned_file bytes (Err e) = refl

pub in_turn : (bytes : List ℕ) → file_in_turn bytes ≡ read_fragment bytes
unfolding read_fragment
in_turn bytes = turned_file bytes (from_wire (behind_magic fragment_magic bytes))
