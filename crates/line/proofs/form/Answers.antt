-- `line::form` meets its contract: the opening, the digits and the closing are tested one by one.
use Rattle.std.proofs.Common.{◌≡◌, [], ◌∷◌, Bool, true, false, sym, ◌∙◌, ◌+◌, ◌-◌, ◌*◌, length, take, drop, arith}
use Rattle.line.specs.Laws.{each_digit, begins, up_to_end, other_length, no_opening, no_digits, ending}
use Rattle.line.proofs.form.Goals as goal
use Rattle.line.proofs.form.Goals.{then-starts_with, else-starts_with}

pub returns-then-text-end : goal.returns-then-text-end
returns-then-text-end c =
    let s = c.args in
    sym (other_length s.opening.now s.text.now s.n (λ e. omega arith))

pub returns-then-digits : goal.returns-then-digits
returns-then-digits c =
    let s = c.args in
    let l = s.text.now in
    let o = s.opening.now in
    let z : length o + 2 * s.n - length o ≡ 2 * s.n = omega arith in
    elim c.if-starts_with.branch [
      | then-starts_with w ↦
          ending o l s.n (omega arith) (c.starts_with.ensures.value ∙ begins o (take (length o) l)) w.if-starts_with.true (rw z at (w.digits.ensures ∙ each_digit (take (length o + 2 * s.n - length o) (drop (length o) l)))) (sym w.value-is ∙ c.if-digits.true)
          (rw up_to_end at (c.starts_with-then-digits.ensures.value ∙ begins (41 ∷ 41 ∷ []) (take 2 (take (length l - (length o + 2 * s.n)) (drop (length o + 2 * s.n) l)))))
      | else-starts_with w ↦ let f : ◌≡◌ {A = Bool} false true = cc in cc
    ]

pub returns-else-digits : goal.returns-else-digits
returns-else-digits c =
    let s = c.args in
    let l = s.text.now in
    let o = s.opening.now in
    let z : length o + 2 * s.n - length o ≡ 2 * s.n = omega arith in
    elim c.if-starts_with.branch [
      | then-starts_with w ↦
          c.if-digits.false ∙ sym (no_digits o l s.n (omega arith) (c.starts_with.ensures.value ∙ begins o (take (length o) l)) w.if-starts_with.true (rw z at (w.digits.ensures ∙ each_digit (take (length o + 2 * s.n - length o) (drop (length o) l)))) (sym w.value-is ∙ c.if-digits.false))
      | else-starts_with w ↦ c.if-digits.false ∙ sym (no_opening o l s.n (omega arith) (c.starts_with.ensures.value ∙ begins o (take (length o) l)) w.if-starts_with.false)
    ]
