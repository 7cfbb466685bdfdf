-- What a sealer's key is, and what drawing a number and signing under it answer and leave. Assumes nothing.
use Rattle.std.specs.Prelude.{◌≡◌, ℕ, ◌+◌, ◌-◌, ◌≤◌, Bool, true, [], ◌∷◌, ◌++◌, length, drop, Ok, Err, Result, ◌==◌, nat_le, nat_lt}
use Rattle.answers.specs.declared.Refusal.{Refusal}
use Rattle.answers.specs.declared.Refusal.TheVariants.{NoneLeft, NotDrawn, NoRoom}
use Rattle.answers.specs.Refusals.{unless}
use Rattle.digests.specs.Strings.{Bytes}

-- a sealer's key name, next number, count left and signature length
pub record Key : Type 0 where
  pub name : Bytes
  pub next : ℕ
  pub left : ℕ
  pub size : ℕ

pub record LawfulKey (key : Key) : Type 0 where
  pub eight_bytes : length key.name ≡ 8
  pub numbers_fit : key.next + key.left ≤ 4294967296
  pub size_fits : key.size ≤ 65535

-- the key after a number was drawn
abbrev pub drawn_once : Key → Key
drawn_once key = record { name = key.name; next = key.next + 1; left = key.left - 1; size = key.size }

-- the next number, unless none is left
abbrev pub draw_answer : Key → Result ℕ Refusal
draw_answer key = unless (((key.left == 0), NoneLeft) ∷ []) key.next

-- a signature to a number into so much room: the number has to be drawn already, and the signature to fit
abbrev pub sign_answer : Key → ℕ → ℕ → Result (Unit {0}) Refusal
sign_answer key number room = unless ((nat_le key.next number, NotDrawn) ∷ ((nat_lt room key.size, NoRoom) ∷ [])) tt

-- a signature to the next number into so much room, and what the sealer's own inspector says to it
abbrev pub sign_next_answer : Key → ℕ → Result Bool Refusal
sign_next_answer key room = unless ((nat_lt room key.size, NoRoom) ∷ (((key.left == 0), NoneLeft) ∷ [])) true

-- the key after a call that draws: a number is gone, or all is as it was
abbrev pub key_after : {A : Type 0} → Result A Refusal → Key → Key
key_after (Ok a) key = drawn_once key
key_after (Err e) key = key

-- the buffer after a call that writes: the bytes stand in front of what stood behind them, or all is as it was
abbrev pub buffer_after : {A E : Type 0} → Result A E → Bytes → Bytes → Bytes
buffer_after (Ok a) bytes before = bytes ++ drop (length bytes) before
buffer_after (Err e) bytes before = before

-- a refused call leaves what it was given as it was
abbrev pub UnchangedIfRefused : {A S : Type 0} → Result A Refusal → S → S → Type 0
UnchangedIfRefused (Ok a) after before = Unit {0}
UnchangedIfRefused (Err e) after before = after ≡ before

-- what drawing a number keeps: the kind, every yes and no, every signature, and which inspectors are the sealer's own
pub record Kept {S Own : Type 0} (kind : S → ℕ) (says : S → ℕ → Bytes → Bytes → Bool) (signature : S → ℕ → Bytes → Bytes) (owns : S → Own → Type 0)
    (before after : S) : Type 0 where
  pub same_kind : kind after ≡ kind before
  pub same_says : says after ≡ says before
  pub same_signature : signature after ≡ signature before
  pub still_own : (o : Own) → owns before o → owns after o
  pub no_more_own : (o : Own) → owns after o → owns before o
