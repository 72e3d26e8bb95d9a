-- Cells inside of a block: bytes are the same, parts of pointers are moved, and so is what is written.
use Rattle.std.proofs.Common.{◌≡◌, ℕ, zero, suc, ◌+◌, ◌/◌, Bool, true, false, cond, List, [], ◌∷◌, Option, Some, None, length, replicate, refl, ap, ap₂}
use Rattle.std.specs.Prelude.{ℤ, map, option_and_then, option_map}
use Rattle.bpf_semantics.specs.State.{Cell}
use Rattle.bpf_semantics.specs.State.Cell.{Byte, Part}
use Rattle.bpf_semantics.specs.Memory.{byte_in, bytes_in, pointer_in, each_cell, without_part, is_within, cell_after, with_bytes, part_after, with_parts}
use Rattle.bpf_semantics.specs.declared.value.Region.{Region}
use Rattle.bpf_semantics.specs.Blocks.{offset_inside, inside_value, inside_cell}

abbrev pub moved_cell : Option Cell → Option Cell
moved_cell cell = option_map inside_cell cell

-- ---- what is read

byte_inside : (c : Option Cell) → byte_in (moved_cell c) ≡ byte_in c
byte_inside None = refl
byte_inside (Some (Byte b)) = refl
byte_inside (Some (Part i region off)) = refl

pub bytes_inside : (cells : List (Option Cell)) → bytes_in (map moved_cell cells) ≡ bytes_in cells
bytes_inside [] = refl
bytes_inside (c ∷ cells) = ap₂ (λ o rest. option_and_then (λ b. option_map (λ bs. b ∷ bs) rest) o) (byte_inside c) (bytes_inside cells)

pub pointer_inside : (c : Option Cell) → pointer_in (moved_cell c) ≡ option_map inside_value (pointer_in c)
pointer_inside None = refl
pointer_inside (Some (Byte b)) = refl
pointer_inside (Some (Part i region off)) = refl

-- ---- what is written

-- where each cell is changed alike, so are all
each_inside : (f g : ℕ → Option Cell → Option Cell) → ((j : ℕ) (c : Option Cell) → g j (moved_cell c) ≡ moved_cell (f j c)) → (i : ℕ) (cells : List (Option Cell)) → each_cell g i (map moved_cell cells) ≡ map moved_cell (each_cell f i cells)
each_inside f g h i [] = refl
each_inside f g h i (c ∷ cells) = ap₂ (λ x xs. x ∷ xs) (h i c) (each_inside f g h (suc i) cells)

cond_inside : (b : Bool) (x y x' y' : Option Cell) → x' ≡ moved_cell x → y' ≡ moved_cell y → cond b x' y' ≡ moved_cell (cond b x y)
cond_inside true x y x' y' e f = e
cond_inside false x y x' y' e f = f

without_inside : (c : Option Cell) → without_part (moved_cell c) ≡ moved_cell (without_part c)
without_inside None = refl
without_inside (Some (Byte b)) = refl
without_inside (Some (Part i region off)) = refl

pub with_bytes_inside : (bytes : List ℕ) (i : ℕ) (cells : List (Option Cell)) → with_bytes bytes i (map moved_cell cells) ≡ map moved_cell (with_bytes bytes i cells)
unfolding with_bytes
with_bytes_inside bytes i cells = each_inside (cell_after bytes i) (cell_after bytes i) after 0 cells
  where
    after : (j : ℕ) (c : Option Cell) → cell_after bytes i j (moved_cell c) ≡ moved_cell (cell_after bytes i j c)
    after j c = cond_inside (is_within i (i + length bytes) j) _ _ _ _ refl (cond_inside (is_within (i / 8) ((i + length bytes + 7) / 8) (j / 8)) _ _ _ _ (without_inside c) refl)

pub with_parts_inside : (region : Region) (off : ℤ) (i : ℕ) (cells : List (Option Cell)) → with_parts region (offset_inside region off) i (map moved_cell cells) ≡ map moved_cell (with_parts region off i cells)
unfolding with_parts
with_parts_inside region off i cells = each_inside (part_after region off i) (part_after region (offset_inside region off) i) after 0 cells
  where
    after : (j : ℕ) (c : Option Cell) → part_after region (offset_inside region off) i j (moved_cell c) ≡ moved_cell (part_after region off i j c)
    after j c = cond_inside (is_within i (i + 8) j) _ _ _ _ refl refl

pub empty_inside : {A B : Type 0} (f : A → B) (k : ℕ) → replicate k None ≡ map (option_map f) (replicate k None)
empty_inside f zero = refl
empty_inside f (suc k) = ap (λ xs. None ∷ xs) (empty_inside f k)
