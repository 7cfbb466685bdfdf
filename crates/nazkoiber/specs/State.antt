-- What the calls of a script work on. Assumes nothing.
use Rattle.std.specs.Prelude.{ℕ, Bool, false, List, [], Some, None, vec_items, Option}
use Rattle.std.specs.Option.{option_map}
use Rattle.families.specs.Any.{any_shape}
use Rattle.families.specs.Shape.{Shape}
use Rattle.scripts.specs.Words.{Bytes}
use Rattle.sheets.specs.Blocks.{blocks_of}
use Rattle.told.specs.declared.algorithm.Algorithm.{Algorithm}
use Rattle.told.specs.declared.algorithm.Algorithm.TheVariants.{Sha256}
use Rattle.keyfiles.specs.Making.{Held, held}
use Rattle.nazkoiber.specs.declared.bench.Bench.{Bench}

pub record State : Type 0 where
  pub blocks : List Bytes
  pub digest : Algorithm
  pub family : Option Shape
  pub key : Option Held
  -- a number that was drawn, behind the name of the key that drew it
  pub hand : Option (Bytes × ℕ)
  pub part : Option Bytes
  -- whether the present seal part is accepted
  pub accepted : Bool

-- what a script begins with
abbrev pub start : State
start = record { blocks = []; digest = Sha256; family = None; key = None; hand = None; part = None; accepted = false }

abbrev pub state : Bench → State
state b =
    record {
      blocks = blocks_of b.sheet;
      digest = b.digest;
      family = option_map any_shape b.family;
      key = option_map held b.key;
      hand = option_map (λ d. (d.key, d.number)) b.hand;
      part = option_map vec_items b.part;
      accepted = b.accepted;
    }

-- the state with one thing exchanged
abbrev pub with_blocks : State → List Bytes → State
with_blocks s blocks =
    record { blocks = blocks; digest = s.digest; family = s.family; key = s.key; hand = s.hand; part = s.part; accepted = s.accepted }

abbrev pub with_digest : State → Algorithm → State
with_digest s digest =
    record { blocks = s.blocks; digest = digest; family = s.family; key = s.key; hand = s.hand; part = s.part; accepted = s.accepted }

abbrev pub with_family : State → Shape → State
with_family s family =
    record { blocks = s.blocks; digest = s.digest; family = Some family; key = s.key; hand = s.hand; part = s.part; accepted = s.accepted }

-- another key takes the acceptance back
abbrev pub with_key : State → Held → State
with_key s key =
    record { blocks = s.blocks; digest = s.digest; family = s.family; key = Some key; hand = s.hand; part = s.part; accepted = false }

-- so does another seal part, or none
abbrev pub with_part : State → Option Bytes → State
with_part s part =
    record { blocks = s.blocks; digest = s.digest; family = s.family; key = s.key; hand = s.hand; part = part; accepted = false }

abbrev pub with_hand : State → Option Held → Option (Bytes × ℕ) → State
with_hand s key hand =
    record { blocks = s.blocks; digest = s.digest; family = s.family; key = key; hand = hand; part = s.part; accepted = s.accepted }

abbrev pub with_acceptance : State → Bool → State
with_acceptance s accepted =
    record { blocks = s.blocks; digest = s.digest; family = s.family; key = s.key; hand = s.hand; part = s.part; accepted = accepted }
