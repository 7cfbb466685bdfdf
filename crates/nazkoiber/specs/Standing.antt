-- What an acceptance rests on. Assumes nothing.
use Rattle.std.specs.Prelude.{ℕ, Bool, true, false, Some, None, is_ok, vec_items, Option, Vec}
use Rattle.std.specs.declared.alloc.Global.{Global}
use Rattle.seals.specs.Scheme.{inspection}
use Rattle.seals.specs.Calls.{accept_answer}
use Rattle.keyfiles.specs.Keys.{key_kind, key_says}
use Rattle.keyfiles.specs.declared.key.AnyKey.{AnyKey}

-- where a seal part is accepted, it is there, and so is the key that accepts it
abbrev pub stands : Bool → Option AnyKey → Option (Vec ℕ Global) → Bool
stands false key part = true
stands true None part = false
stands true (Some key) None = false
stands true (Some key) (Some part) = is_ok (accept_answer (inspection (key_kind key) (key_says key)) (vec_items part))
