-- A report's lines tell what they print: from equal bytes to equal figures and heads, line by line.
use Prim.Native.Nat.{ℕ, zero, suc, ◌<◌, ◌^◌}
use mathlib.Core.Path.{◌≡◌, sym, ap, subst, ◌∙◌}
use mathlib.Core.List.{List, ◌∷◌, ◌++◌, append_assoc}
use native.Mathlib.Decide.{ℕ_discrete}
use native.Mathlib.Omega.{arith}
use lib.ListN.{drop}
use lib.Dec.{lit<}
use Rattle.rules.specs.declared.Head.{Head}
use Rattle.file.specs.Figures.{Outcome}
use Rattle.file.specs.Table.{head_of}
use Rattle.file.specs.Report.{word, decimal, figure, first_line, head_line, head_lines, last_line, refusal_line, SameState}
use Rattle.file.proofs.Printing.Decimals.{decimal_tells, decimal_lacks}
use Rattle.file.proofs.Printing.WordsApart.{apart, value_apart, status_apart, decision_apart}

-- at most twenty digits
abbrev pub Printable : ℕ → Type 0
Printable n = n < 10 ^ 20

pub record PrintableOutcome (o : Outcome) : Type 0 where
  pub number : Printable o.number
  pub place : Printable o.place
  pub n : Printable o.n
  pub needed : Printable o.needed
  pub bound : Printable o.bound
  pub rounds : Printable o.rounds
  pub good : Printable o.good
  pub decided : Printable o.decided

number_apart : (c m n : ℕ) {more less : List ℕ} → c < 48 → Printable m → Printable n
    → decimal m ++ (c ∷ more) ≡ decimal n ++ (c ∷ less) → (m ≡ n) × (more ≡ less)
number_apart c m n low a b e =
    let r = apart c (decimal m) (decimal n) (decimal_lacks c m low) (decimal_lacks c n low) e in
    (decimal_tells m n a b r.0, r.1)

space : 32 < 48
space = lit< tt

newline : 10 < 48
newline = lit< tt

-- "refused, number, at, place"
pub refusal_apart : (o p : Outcome) → PrintableOutcome o → PrintableOutcome p
    → refusal_line o ≡ refusal_line p → (o.number ≡ p.number) × (o.place ≡ p.place)
unfolding refusal_line
refusal_apart o p a b e =
    let x = number_apart 32 o.number p.number space a.number b.number (simp append_assoc at (ap (drop 8) e)) in
    let y = number_apart 10 o.place p.place newline a.place b.place (ap (drop 3) x.1) in
    (x.0, y.0)

-- "First line: n, k, the good-round bound."
pub first_apart : (o p : Outcome) (more less : List ℕ) → PrintableOutcome o → PrintableOutcome p
    → first_line o ++ more ≡ first_line p ++ less
    → (o.n ≡ p.n) × (o.needed ≡ p.needed) × (o.bound ≡ p.bound) × (more ≡ less)
unfolding first_line
first_apart o p more less a b e =
    let f : decimal o.n ++ figure " need " o.needed ++ figure " bound " o.bound ++ word "\n" ++ more
    ≡ decimal p.n ++ figure " need " p.needed ++ figure " bound " p.bound ++ word "\n" ++ less = ap (drop 6) e in
    let x = number_apart 32 o.n p.n space a.n b.n (simp append_assoc at f) in
    let y = number_apart 32 o.needed p.needed space a.needed b.needed (ap (drop 5) x.1) in
    let z = number_apart 10 o.bound p.bound newline a.bound b.bound (ap (drop 6) y.1) in
    (x.0, y.0, z.0, z.1)

-- "Last line: rounds run, good rounds," and by W2 "heads whose decision is written"
pub last_apart : (o p : Outcome) → PrintableOutcome o → PrintableOutcome p → last_line o ≡ last_line p
    → (o.rounds ≡ p.rounds) × (o.good ≡ p.good) × (o.decided ≡ p.decided)
unfolding last_line
last_apart o p a b e =
    let f : decimal o.rounds ++ figure " good " o.good ++ figure " decided " o.decided ++ word "\n"
    ≡ decimal p.rounds ++ figure " good " p.good ++ figure " decided " p.decided ++ word "\n" = ap (drop 7) e in
    let x = number_apart 32 o.rounds p.rounds space a.rounds b.rounds (simp append_assoc at f) in
    let y = number_apart 32 o.good p.good space a.good b.good (ap (drop 5) x.1) in
    let z = number_apart 10 o.decided p.decided newline a.decided b.decided (ap (drop 8) y.1) in
    (x.0, y.0, z.0)

-- "One line a head, its last state"
head_apart : (s : ℕ) (h k : Head) (more less : List ℕ) → Printable s → Printable h.phase
    → Printable k.phase
    → head_line s h ++ more ≡ head_line s k ++ less → SameState h k × (more ≡ less)
unfolding head_line
head_apart s h k more less few a b e =
    let v = number_apart 32 s s space few few (simp append_assoc at (ap (drop 5) e)) in
    let w = number_apart 32 h.phase k.phase space a b (ap (drop 6) v.1) in
    let x = value_apart 32 h.value k.value space (ap (drop 6) w.1) in
    let y = status_apart 32 h.status k.status space (ap (drop 7) x.1) in
    let z = decision_apart 10 h.decision k.decision newline (ap (drop 9) y.1) in
    ((w.0, x.0, y.0, z.0), z.1)

module _ (hs ks : List Head) where
  -- the first n heads' lines, whatever comes after them
  pub lines_apart : (n : ℕ) (more less : List ℕ) → Printable n
      → ((s : ℕ) → s < n → Printable (head_of hs s).phase)
      → ((s : ℕ) → s < n → Printable (head_of ks s).phase)
      → head_lines n hs ++ more ≡ head_lines n ks ++ less
      → ((s : ℕ) → s < n → SameState (head_of hs s) (head_of ks s)) × (more ≡ less)
  unfolding head_lines
  lines_apart zero more less few a b e = (λ s h. absurd (omega arith), e)
  lines_apart (suc k) more less few a b e =
      let up_to =
      lines_apart k (head_line k (head_of hs k) ++ more) (head_line k (head_of ks k) ++ less) (omega (arith, few))
      (λ s h. a s (omega arith)) (λ s h. b s (omega arith))
      (sym (append_assoc (head_lines k hs) (head_line k (head_of hs k)) more)
      ∙ e
      ∙ append_assoc (head_lines k ks) (head_line k (head_of ks k)) less) in
      let at =
      head_apart k (head_of hs k) (head_of ks k) more less (omega (arith, few)) (a k (omega arith)) (b k (omega arith))
      up_to.1 in
      (λ s h. below s h (ℕ_discrete s k) (up_to.0 s) at.0, at.1)
    where
      below : (s : ℕ) → s < suc k → Dec (s ≡ k) → (s < k → SameState (head_of hs s) (head_of ks s))
          → SameState (head_of hs k) (head_of ks k) → SameState (head_of hs s) (head_of ks s)
      below s h (yes is) before at = subst (λ (t : ℕ). SameState (head_of hs t) (head_of ks t)) (sym is) at
      below s h (no other) before at = before (omega (arith, other))
