-- What is read of a text is enough to tell its report.
use Rattle.std.specs.Prelude.{◌≡◌, ℕ, ◌+◌, ◌≤◌, ◌<◌, min, ◌++◌, length, take}
use Rattle.std.proofs.Common.{ap, sym, refl, ◌∙◌, inl, inr, arith}
use Rattle.std.proofs.lemmas.Bool.{cases_lt, lt-ltb, ne_eqb}
use Rattle.std.proofs.lemmas.List.{take_all, length-take-le}
use Rattle.answers.specs.Refusals.{shown_as}
use Rattle.answers.specs.declared.Refusal.TheVariants.{TooLong}
use Rattle.reports.specs.Reports.{text_report, newline}
use Rattle.sheets.specs.Table.{Bytes, max_bytes}

-- the report of a text that is too long
too_long : (text : Bytes) → max_bytes < length text → text_report text ≡ shown_as TooLong ++ newline
too_long text l = rw (ne_eqb (length text) 0 (λ e. omega (arith, l, e))) (rw (lt-ltb max_bytes (length text) l) refl)

pub report_of_front : (text : Bytes) (m : ℕ) → max_bytes < m → text_report (take m text) ≡ text_report text
report_of_front text m l =
    elim (cases_lt (length text) m) [
      | inl short ↦ ap text_report (take_all m text (omega (arith, short)))
      | inr long ↦
          too_long (take m text) (rw (length-take-le m text long) l)
          ∙ sym (too_long text (omega (arith, l, long)))
    ]
