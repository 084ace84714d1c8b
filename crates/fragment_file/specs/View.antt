-- What the views of a file lend: blocks at locations of its bytes.
use Rattle.std.specs.Prelude.{◌≡◌, ℕ, ◌-◌, ◌≤◌, true, List, [], ◌∷◌, ◌++◌, length, map, take, drop, All}
use Rattle.blocks.specs.Block.{Block, is_block}
use Rattle.fragment_file.specs.declared.header.Header.{Header}
use Rattle.fragment_file.specs.declared.view.BlockLocation.{BlockLocation}
use Rattle.fragment_file.specs.Fragment.{FragmentSpec, IsFragment}

-- how many rows a row group has: those of each of its blocks
abbrev pub rows_of : List Block → ℕ
rows_of [] = 0
rows_of (b ∷ bs) = b.rows

-- blocks of equal rows
pub record IsGroup (blocks : List Block) : Type 0 where
  pub sound : All (λ b. is_block b ≡ true) blocks
  pub equal : All (λ b. b.rows ≡ rows_of blocks) blocks

-- ---- locations

-- the block at a location of the bytes
unfoldable pub block_in : List ℕ → BlockLocation → Block
block_in bytes p = record { kind = p.kind; col_type = p.col_type; nullable = p.nullable; rows = p.rows; payload = take (p.end - p.start) (drop p.start bytes) }

pub record IsWithin (bytes : List ℕ) (p : BlockLocation) : Type 0 where
  pub ordered : p.start ≤ p.end
  pub within : p.end ≤ length bytes

-- locations of blocks of equal rows
pub record IsGroupAt (bytes : List ℕ) (locations : List BlockLocation) : Type 0 where
  pub within : All (IsWithin bytes) locations
  pub group : IsGroup (map (block_in bytes) locations)

-- a header, and the blocks of each row group at their locations
abbrev pub fragment_in : Header → List ℕ → List (List BlockLocation) → FragmentSpec
fragment_in header bytes groups = record { header = header; groups = map (map (block_in bytes)) groups }

-- locations that make up what a file holds
pub record IsFragmentAt (header : Header) (bytes : List ℕ) (groups : List (List BlockLocation)) : Type 0 where
  pub within : All (All (IsWithin bytes)) groups
  pub fragment : IsFragment (fragment_in header bytes groups)

-- ---- reading

-- what is left of the bytes
pub record IsEnd (bytes rest : List ℕ) : Type 0 where
  pub front : List ℕ
  pub parts : bytes ≡ front ++ rest

-- what was read: locations in the bytes, and what is left of them
pub record IsTaken (bytes : List ℕ) (location : BlockLocation) (rest : List ℕ) : Type 0 where
  pub within : IsWithin bytes location
  pub end : IsEnd bytes rest

pub record AreTaken (bytes : List ℕ) (locations : List BlockLocation) (rest : List ℕ) : Type 0 where
  pub within : All (IsWithin bytes) locations
  pub end : IsEnd bytes rest

pub record AreGroupsTaken (bytes : List ℕ) (groups : List (List BlockLocation)) (rest : List ℕ) : Type 0 where
  pub within : All (All (IsWithin bytes)) groups
  pub end : IsEnd bytes rest
