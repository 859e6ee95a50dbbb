-- The report's text is document 01's: what is written after nothing, line by line.
use Rattle.std.proofs.Common.{◌≡◌, ℕ, zero, suc, ◌≤◌, Bool, cond, List, [], ◌++◌, length, take, refl, sym, subst, ap, ap₂, ◌∙◌, arith}
use Rattle.std.proofs.lemmas.List.{take_all, get_or-take, length-take-le}
use lib.Dec.{eqb}
use borrow.Author.Tests.{eq-eqb, ne_eqb}
use Rattle.rules.specs.declared.Head.{Head}
use Rattle.rules.specs.Head.{zero_head}
use Rattle.std.specs.Prelude.{Result, Ok, Err}
use Rattle.file.specs.declared.Refusal.{Refusal}
use Rattle.file.specs.declared.Figures.{Figures}
use Rattle.file.specs.declared.Benched.{Benched as Answered}
use Rattle.file.specs.Figures.{Outcome, outcome_of, outcome_read}
use Rattle.file.specs.Benched.{Benched, benched_of, benched_read}
use Rattle.file.proofs.OneAnswer.{never_0}
use Rattle.file.specs.Report.{first_line, head_line, head_lines, last_line, refusal_line, report_of}
use Rattle.run.specs.Writing.{with_word}
use Rattle.run.proofs.Planned.{planned_fits}
use Rattle.run.proofs.Texts.{word_word, report_short}

-- a vote in the table of 32 has at most 32 heads
pub benched_few : (file : List ℕ) → (benched_of file).outcome.n ≤ 32
unfolding outcome_of
benched_few file = (planned_fits file 32).among_room

-- the lines for what the bench has answered
abbrev lines_of : Benched → List ℕ
lines_of b =
    let o = b.outcome in
    cond (eqb o.number 0) (first_line o ++ head_lines o.n b.heads ++ last_line o) (refusal_line o)

-- all of a word fits after nothing, if it is short
with_short : (word : List ℕ) → length word ≤ 4096 → with_word [] word ≡ word
unfolding with_word
with_short word short = take_all 4096 word short

-- the heads past those that have a line have no part in the lines
lines_of_part : (n : ℕ) (heads : List Head) → n ≤ length heads → head_lines (length (take n heads)) (take n heads) ≡ head_lines n heads
unfolding head_lines
lines_of_part n heads inside = ap (λ (k : ℕ). head_lines k (take n heads)) (length-take-le n heads inside) ∙ go n (omega arith)
  where
    go : (k : ℕ) → k ≤ n → head_lines k (take n heads) ≡ head_lines k heads
    go zero low = refl
    go (suc k) low = ap₂ (λ (lines : List ℕ) (h : Head). lines ++ head_line k h) (go k (omega arith)) (get_or-take n heads k zero_head (omega arith))

module _ (file : List ℕ) (done : Benched) (is : done ≡ benched_of file) where
  abbrev o : Outcome
  o = done.outcome

  abbrev lines : List ℕ
  lines = head_lines o.n done.heads

  few : o.n ≤ 32
  few = subst (λ (d : Benched). d.outcome.n ≤ 32) (sym is) (benched_few file)

  -- what was written is the report, if it is the report's lines
  lines_are_report : with_word [] (lines_of done) ≡ report_of file
  unfolding report_of
  lines_are_report =
      ap (λ (d : Benched). with_word [] (lines_of d)) is
      ∙ with_short (report_of file) (report_short file (benched_few file))

  pub refusal_is_report : (o.number ≡ 0 → ⊥) → with_word [] (refusal_line o) ≡ report_of file
  refusal_is_report refused =
      ap (λ (t : Bool). with_word [] (cond t (first_line o ++ lines ++ last_line o) (refusal_line o))) (sym (ne_eqb o.number 0 refused))
      ∙ lines_are_report

  pub lines_report : o.number ≡ 0 → length done.heads ≡ 32
      → with_word (with_word (with_word [] (first_line o)) (head_lines (length (take o.n done.heads)) (take o.n done.heads)))
      (last_line o) ≡ report_of file
  lines_report accepted long =
      rw (lines_of_part o.n done.heads (omega (arith, few, long)))
      (ap (λ (t : List ℕ). with_word t (last_line o)) (word_word [] (first_line o) lines)
      ∙ word_word [] (first_line o ++ lines) (last_line o)
      ∙ ap (λ (t : Bool). with_word [] (cond t (first_line o ++ lines ++ last_line o) (refusal_line o))) (sym (eq-eqb o.number 0 accepted))
      ∙ lines_are_report)

-- ---- by what the bench has answered

module _ (file : List ℕ) (done : Answered) (is : benched_read done ≡ benched_of file) where
  pub refusal_report : (refusal : Refusal) → done.outcome ≡ Err refusal
      → with_word [] (refusal_line (outcome_read (Err refusal))) ≡ report_of file
  refusal_report refusal refused =
      ap (λ (r : Result Figures Refusal). with_word [] (refusal_line (outcome_read r))) (sym refused)
      ∙ refusal_is_report file (benched_read done) is (λ zero. never_0 refusal.fault (ap (λ (r : Result Figures Refusal). (outcome_read r).number) (sym refused) ∙ zero))

  module _ (figures : Figures) (accepted : done.outcome ≡ Ok figures) where
    pub few_heads : figures.n ≤ 32
    few_heads =
        omega (arith, few file (benched_read done) is, ap (λ (r : Result Figures Refusal). (outcome_read r).n) accepted)

    pub figures_report : length done.heads ≡ 32
        → with_word (with_word (with_word [] (first_line (outcome_read (Ok figures)))) (head_lines (length (take figures.n done.heads)) (take figures.n done.heads)))
        (last_line (outcome_read (Ok figures))) ≡ report_of file
    figures_report long =
        ap (λ (r : Result Figures Refusal). with_word (with_word (with_word [] (first_line (outcome_read r))) (head_lines (length (take (outcome_read r).n done.heads)) (take (outcome_read r).n done.heads))) (last_line (outcome_read r))) (sym accepted)
        ∙ lines_report file (benched_read done) is (ap (λ (r : Result Figures Refusal). (outcome_read r).number) accepted) long
