-- A key and its own inspector accept the same.
use Rattle.std.specs.Prelude.{◌≡◌, ℕ, Bool, not, ◌&&◌, [], ◌∷◌, Ok, ◌==◌}
use Rattle.std.proofs.Common.{◌∙◌, sym, ap}
use Rattle.answers.specs.declared.Refusal.TheVariants.{Malformed, NotGenuine}
use Rattle.scripts.specs.Words.{Bytes}
use Rattle.seals.specs.Scheme.{Inspection, inspection}
use Rattle.seals.specs.Part.{is_seal_part, part_sealer_kind, seal_number, signed_text, signature_of}
use Rattle.seals.proofs.Answers.{was_answered}
use Rattle.seals.specs.Calls.{accept_answer}
use Rattle.keyfiles.specs.declared.key.AnyInspector.{AnyInspector}
use Rattle.keyfiles.specs.declared.key.AnyKey.{AnyKey}
use Rattle.keyfiles.specs.Keys.{inspector_kind, inspector_says, key_kind, key_says, KeyOwns}
use Rattle.keyfiles.specs.KeyLaws.{own_alike}

pub accepts_alike : (k : AnyKey) (i : AnyInspector) (part : Bytes) → KeyOwns k i
    → accept_answer (inspection (inspector_kind i) (inspector_says i)) part ≡ accept_answer (inspection (key_kind k) (key_says k)) part
accepts_alike k i part owned =
    let alike = own_alike k i owned in
    ap (λ (n : ℕ). accept_answer (inspection n (inspector_says i)) part) alike.0
    ∙ ap (λ (says : ℕ → Bytes → Bytes → Bool). accept_answer (inspection (key_kind k) says) part) alike.1

-- what is accepted is the part itself
pub accept_keeps : (v : Inspection) (part b : Bytes) → Ok b ≡ accept_answer v part → part ≡ b
unfolding accept_answer
accept_keeps v part b e =
    (was_answered
    ((not (is_seal_part part), Malformed)
    ∷ ((not (part_sealer_kind part == v.kind && v.says (seal_number part) (signed_text part) (signature_of part)), NotGenuine) ∷ []))
    part b (sym e)).1
