-- What is known of the files that a program reads, writes and takes away.
use Rattle.std.specs.Prelude.{◌≡◌, ℕ, List, [], ◌∷◌, ◌++◌, if◌then◌else◌, codes, decimal, Option, None, Some, Result, IfOk, IfSome, nat_eq}
use Rattle.std.specs.List.{ends_with}
use Rattle.disk.specs.Disk.{DiskSpec, IsHonest}

-- the bytes of each path, where they are known
abbrev pub Holds : Type 0
Holds = List ℕ → Option (List ℕ)

-- a path, and the bytes that stand under it from then on; none where its file was taken away
abbrev pub Change : Type 0
Change = List ℕ × Option (List ℕ)

-- ---- reading

-- an opened file has the bytes that are held under its path, where those are known
abbrev pub Opens : {R E : Type 0} → (R → Option (List ℕ)) → Option (List ℕ) → Result R E → Type 0
Opens remaining held result = IfOk result (λ file. IfSome held (λ bytes. remaining file ≡ Some bytes))

-- the same, of any bytes that are known to be held
abbrev pub HasHeld : Option (List ℕ) → Option (List ℕ) → Type 0
HasHeld held remaining = (bytes : List ℕ) → held ≡ Some bytes → remaining ≡ Some bytes

-- these bytes are those held, where those are known
abbrev pub AreHeld : Option (List ℕ) → List ℕ → Type 0
AreHeld held bytes = IfSome held (λ known. bytes ≡ known)

-- the disk of a file whose bytes are known is honest, and reads are those
abbrev pub HasDisk : Option (List ℕ) → DiskSpec → Type 0
HasDisk held disk = (bytes : List ℕ) → held ≡ Some bytes → IsHonest disk × (disk.now.reads ≡ bytes)

-- what is asked of a folder or tried from then on is asked of it or tried as it was
abbrev pub AsksOf : (List ℕ → Type 0) → (List ℕ → Type 0) → Type 0
AsksOf before after = (path : List ℕ) → after path → before path

-- ---- writing

-- a file that was made has no bytes yet, where what is written is known
abbrev pub IsEmptyFile : Option (List Change) → Option (List ℕ) → Type 0
IsEmptyFile wrote contents = (old : List Change) → wrote ≡ Some old → contents ≡ Some []

-- a file that is closed, and stands under no path yet, has such bytes, where what is written is known
abbrev pub Encloses : (List ℕ → Type 0) → Option (List Change) → Option (List ℕ) → Type 0
Encloses AreSuch wrote contents = (old : List Change) → wrote ≡ Some old → (bytes : List ℕ) × (contents ≡ Some bytes) × AreSuch bytes

-- a file of these bytes stands under its path behind the changes before, where they are known
abbrev pub Finishes : Option (List Change) → Option (List Change) → List ℕ → Option (List ℕ) → Type 0
Finishes before after path contents = (old : List Change) (bytes : List ℕ) → before ≡ Some old → contents ≡ Some bytes → after ≡ Some (old ++ (path, Some bytes) ∷ [])

-- no file stands under the path behind the changes before, where they are known
abbrev pub Removes : Option (List Change) → Option (List Change) → List ℕ → Type 0
Removes before after path = (old : List Change) → before ≡ Some old → after ≡ Some (old ++ (path, None) ∷ [])

-- such changes were made behind those before, where they are known
abbrev pub Writes : (List Change → Type 0) → Option (List Change) → Option (List Change) → Type 0
Writes AreSuch before after = (old : List Change) → before ≡ Some old → (new : List Change) × (after ≡ Some (old ++ new)) × AreSuch new

-- a file of such bytes stands under the path behind the changes before, where they are known
abbrev pub WritesOne : List ℕ → (List ℕ → Type 0) → Option (List Change) → Option (List Change) → Type 0
WritesOne path AreSuch before after = (old : List Change) → before ≡ Some old → (bytes : List ℕ) × (after ≡ Some (old ++ (path, Some bytes) ∷ [])) × AreSuch bytes

-- ---- paths

-- the path of a file in a folder: the two names with one slash between
abbrev pub path_in : List ℕ → List ℕ → List ℕ
path_in folder name = (if ends_with nat_eq folder (47 ∷ []) then folder else folder ++ 47 ∷ []) ++ name

-- the path of a table's CSV file
abbrev pub csv_path : List ℕ → List ℕ → List ℕ
csv_path folder table = path_in folder (table ++ codes ".csv")

-- the path of the catalogue
abbrev pub catalog_path : List ℕ → List ℕ
catalog_path folder = path_in folder (codes "catalog.txt")

-- the path of a fragment's file
abbrev pub fragment_path : List ℕ → List ℕ → ℕ → List ℕ
fragment_path folder table k = path_in folder (table ++ (codes "." ++ (decimal k ++ codes ".xcf")))

-- the path of a dimension's file
abbrev pub dimension_path : List ℕ → List ℕ → List ℕ
dimension_path folder table = path_in folder (table ++ codes ".xcf")

-- the path of the file of the cut
abbrev pub cut_path : List ℕ → List ℕ
cut_path folder = path_in folder (codes "cut.xcl")
