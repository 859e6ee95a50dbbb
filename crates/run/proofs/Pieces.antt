-- The pieces of a section's body: the first that is said to break its rule is the first that does.
use Rattle.std.proofs.Common.{◌≡◌, ℕ, ◌+◌, ◌*◌, ◌/◌, ◌<◌, ◌≤◌, List, [], ◌∷◌, Bool, true, false, cond, length, take, drop, Option, Some, None, IfSome, IsSomeAnd, slice_index_or, get_or, refl, sym, ap, ◌∙◌, arith}
use Rattle.std.specs.Option.{option_map}
use native.Mathlib.Nat.{add-zero}
use lib.Dec.{ltb}
use borrow.Author.Tests.{lt-ltb, le-ltb}
use Rattle.rules.specs.Below.{first}
use Rattle.rules.proofs.Counting.Below.{first_at, first_none}
use Rattle.rules.specs.Record.{four_bytes_at}
use Rattle.file.specs.Section.{Body, Refused, section_at, not_bit}
use Rattle.run.proofs.Parts.{byte_of_part}

-- what is known of an item that is there
pub known : {A R : Type 0} {P Q : A → Type 0} (o : Option A) → IfSome o P → IsSomeAnd o Q → ((x : A) → P x → Q x → R) → R
known None p q f = absurd q
known (Some x) p q f = f x p q

-- an item that is read off a list is there
pub there : {A : Type 0} (Q : A → Type 0) (o : Option A) (items : List A) (k : ℕ)
    → ((d : A) → option_map (λ y. y) o ≡ Some (slice_index_or items k d)) → k < length items → IfSome o Q → IsSomeAnd o Q
there Q None [] k reads h q = absurd (omega arith)
there Q None (x ∷ items) k reads h q = search (arith, reads x)
there Q (Some x) items k reads h q = q

module _ (file body : List ℕ) (at size width : ℕ) (test : List ℕ → ℕ → Bool) (inside : at + 2 + size ≤ length file)
    (is : body ≡ take size (drop (at + 2) file)) where
  counted : section_at file at false size width test
      ≡ cond (ltb (first (length body / width) (λ i. test body (i * width))) (length body / width))
      (Refused 14 (at + 2 + first (length body / width) (λ i. test body (i * width)) * width)) (Body (at + 2) size)
  unfolding section_at
  counted =
      let a : at + 2 ≤ length file = omega arith in
      rw (is, le-ltb (length file) (at + 2) a, le-ltb (length file) (at + 2 + size) inside) refl

  pub some_breaks : (i : ℕ) → i < length body / width → ((k : ℕ) → k < i → test body (k * width) ≡ false)
      → test body (i * width) ≡ true
      → Refused 14 (at + 2 + i * width) ≡ section_at file at false size width test
  some_breaks i h before here =
      let e = first_at (length body / width) (λ k. test body (k * width)) i before here h in
      sym (counted ∙ rw (e, lt-ltb i (length body / width) h) refl)

  pub none_breaks : ((k : ℕ) → k < length body / width → test body (k * width) ≡ false)
      → Body (at + 2) size ≡ section_at file at false size width test
  none_breaks all =
      let e = first_none (length body / width) (λ k. test body (k * width)) all in
      sym (counted ∙ rw (e, le-ltb (length body / width) (length body / width) (omega arith)) refl)

-- a piece's own byte is the body's at the piece's place
pub byte_of : (body : List ℕ) (at : ℕ) → get_or (take 1 (drop at body)) 0 0 ≡ get_or body at 0
byte_of body at = byte_of_part body at 1 0 (omega arith) ∙ ap (λ (i : ℕ). get_or body i 0) (add-zero at)

pub bit_of : (body piece : List ℕ) (at : ℕ) (answer : Bool) → answer ≡ not_bit piece 0 → piece ≡ take 1 (drop at body) → answer ≡ not_bit body at
bit_of body piece at answer said is = said ∙ ap (λ (p : List ℕ). not_bit p 0) is ∙ ap (ltb 1) (byte_of body at)

-- and so is its row
pub row_of : (body : List ℕ) (at : ℕ) → four_bytes_at (take 4 (drop at body)) 0 ≡ four_bytes_at body at
row_of body at =
    rw (
      byte_of_part body at 4 0 (omega arith),
      byte_of_part body at 4 1 (omega arith),
      byte_of_part body at 4 2 (omega arith),
      byte_of_part body at 4 3 (omega arith),
      add-zero at,
    ) refl
