-- Words one after the other are told apart: each ends at the first byte that none of its letters is.
use Prim.Native.Nat.{ℕ, ◌<◌}
use mathlib.Core.Path.{◌≡◌, refl, sym, ap, ap₂, ◌∙◌}
use mathlib.Core.List.{List, [], ◌∷◌, ◌++◌}
use mathlib.Core.Bool.{Bool, true, false, cond, ◌&&◌}
use native.Mathlib.Omega.{arith}
use lib.ListN.{get_or, drop}
use lib.Dec.{ltb, eqb}
use borrow.Author.Tests.{ltb-true}
use Rattle.rules.specs.declared.Value.{Value}
use Rattle.rules.specs.declared.Value.TheVariants.{Zero, One, Blank}
use Rattle.rules.specs.declared.Status.{Status}
use Rattle.rules.specs.declared.Status.TheVariants.{Undecided, Decided}
use Rattle.rules.specs.declared.Decision.{Decision}
use Rattle.rules.specs.declared.Decision.TheVariants.{Zero as ForZero, One as ForOne, Unwritten}
use Rattle.rules.proofs.Counting.Truth.{never}
use Rattle.file.specs.Report.{value_word, status_word, decision_word}

-- c is not among these bytes
abbrev pub Lacks : ℕ → List ℕ → Type 0
Lacks c [] = Unit {0}
Lacks c (x ∷ l) = (x ≡ c → ⊥) × Lacks c l

pub lacks_append : (c : ℕ) (l k : List ℕ) → Lacks c l → Lacks c k → Lacks c (l ++ k)
lacks_append c [] k a b = b
lacks_append c (x ∷ l) k a b = (a.0, lacks_append c l k a.1 b)

abbrev head : List ℕ → ℕ
head l = get_or l 0 0

pub apart : (c : ℕ) (l k : List ℕ) {more less : List ℕ} → Lacks c l → Lacks c k
    → l ++ (c ∷ more) ≡ k ++ (c ∷ less) → (l ≡ k) × (more ≡ less)
apart c [] [] a b e = (refl, ap (drop 1) e)
apart c [] (y ∷ k) a b e = absurd (b.0 (sym (ap head e)))
apart c (x ∷ l) [] a b e = absurd (a.0 (ap head e))
apart c (x ∷ l) (y ∷ k) a b e =
    let i = apart c l k a.1 b.1 (ap (drop 1) e) in
    (ap₂ (λ (d : ℕ) (r : List ℕ). d ∷ r) (ap head e) i.0, i.1)

-- ---- the words of a head's line

-- letters and digits are 48 and more; spaces and newlines are not
abbrev written : List ℕ → Bool
written [] = true
written (x ∷ l) = ltb 47 x && written l

written_lacks : (c : ℕ) (l : List ℕ) → c < 48 → written l ≡ true → Lacks c l
written_lacks c [] low e = tt
written_lacks c (x ∷ l) low e = go (ltb 47 x) refl e (written_lacks c l low)
  where
    go : (t : Bool) → ltb 47 x ≡ t → (t && written l) ≡ true → (written l ≡ true → Lacks c l) → Lacks c (x ∷ l)
    go true h e rest = (λ q. omega (arith, low, q, ltb-true 47 x h), rest e)
    go false h e rest = never e

value_written : (v : Value) → written (value_word v) ≡ true
value_written Zero = refl
value_written One = refl
value_written Blank = refl

status_written : (s : Status) → written (status_word s) ≡ true
status_written Undecided = refl
status_written Decided = refl

decision_written : (d : Decision) → written (decision_word d) ≡ true
decision_written ForZero = refl
decision_written ForOne = refl
decision_written Unwritten = refl

-- each word is read back
abbrev value_from : List ℕ → Value
value_from l = cond (eqb (head l) 48) Zero (cond (eqb (head l) 49) One Blank)

value_back : (v : Value) → value_from (value_word v) ≡ v
value_back Zero = refl
value_back One = refl
value_back Blank = refl

abbrev status_from : List ℕ → Status
status_from l = cond (eqb (head l) 117) Undecided Decided

status_back : (s : Status) → status_from (status_word s) ≡ s
status_back Undecided = refl
status_back Decided = refl

abbrev decision_from : List ℕ → Decision
decision_from l = cond (eqb (head l) 48) ForZero (cond (eqb (head l) 49) ForOne Unwritten)

decision_back : (d : Decision) → decision_from (decision_word d) ≡ d
decision_back ForZero = refl
decision_back ForOne = refl
decision_back Unwritten = refl

pub value_apart : (c : ℕ) (v w : Value) {more less : List ℕ} → c < 48
    → value_word v ++ (c ∷ more) ≡ value_word w ++ (c ∷ less) → (v ≡ w) × (more ≡ less)
value_apart c v w low e =
    let r =
    apart c (value_word v) (value_word w) (written_lacks c (value_word v) low (value_written v))
    (written_lacks c (value_word w) low (value_written w)) e in
    (sym (value_back v) ∙ ap value_from r.0 ∙ value_back w, r.1)

pub status_apart : (c : ℕ) (s t : Status) {more less : List ℕ} → c < 48
    → status_word s ++ (c ∷ more) ≡ status_word t ++ (c ∷ less) → (s ≡ t) × (more ≡ less)
status_apart c s t low e =
    let r =
    apart c (status_word s) (status_word t) (written_lacks c (status_word s) low (status_written s))
    (written_lacks c (status_word t) low (status_written t)) e in
    (sym (status_back s) ∙ ap status_from r.0 ∙ status_back t, r.1)

pub decision_apart : (c : ℕ) (d f : Decision) {more less : List ℕ} → c < 48
    → decision_word d ++ (c ∷ more) ≡ decision_word f ++ (c ∷ less) → (d ≡ f) × (more ≡ less)
decision_apart c d f low e =
    let r =
    apart c (decision_word d) (decision_word f) (written_lacks c (decision_word d) low (decision_written d))
    (written_lacks c (decision_word f) low (decision_written f)) e in
    (sym (decision_back d) ∙ ap decision_from r.0 ∙ decision_back f, r.1)
