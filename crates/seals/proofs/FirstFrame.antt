-- One frame, in front of some bytes.
use Rattle.std.specs.Prelude.{◌≡◌, ℕ, ◌+◌, ◌*◌, ◌/◌, ◌%◌, ◌<◌, ◌≤◌, Bool, true, false, cond, ◌&&◌, [], ◌∷◌, ◌++◌, length, take, drop, Some, None, Option, ◌==◌, nat_le, refl}
use Rattle.std.specs.Option.{is_some, option_and_then}
use Rattle.std.proofs.Common.{sym, ap, ◌∙◌, subst, arith, get_or, length-append, length-drop}
use Rattle.std.proofs.lemmas.List.{drop_at, drop-drop, take-append-drop, length-take-le, get_or-drop}
use Rattle.std.proofs.lemmas.Bool.{and_parts, and_from, eqb-true, eq-eqb, leb-true, le-leb}
use Rattle.std.proofs.lemmas.Bool.Decides.{same_from_decides}
use Rattle.digests.specs.Strings.{Bytes, same}
use Rattle.sheets.specs.Table.{max_bytes}
use Rattle.seals.specs.Images.{two_bytes, framed}
use Rattle.seals.specs.Part.{word}
use Rattle.seals.specs.Excerpts.{behind_frame}
use Rattle.seals.proofs.Answers.{same_true, same_refl}

-- each is a byte
abbrev pub Small : Bytes → Type 0
Small e = (k : ℕ) → get_or e k 0 < 256

-- what some bytes say of the frame in front of them, the block that it frames, and what stands behind it
abbrev pub has_frame : ℕ → Bytes → Bool
has_frame m e = word e 0 == m && (nat_le (word e 2) max_bytes && nat_le (4 + word e 2) (length e))

abbrev pub first_block : Bytes → Bytes
first_block e = take (word e 2) (drop 4 e)

abbrev pub behind : Bytes → Bytes
behind e = drop (4 + word e 2) e

pub small_behind : (e : Bytes) → Small e → Small (behind e)
small_behind e small k = rw get_or-drop (small (4 + word e 2 + k))

-- bytes are the frame that they begin with and what stands behind it
two_back : (high low : ℕ) → high < 256 → low < 256 → two_bytes (high * 256 + low) ≡ high ∷ (low ∷ [])
two_back high low h l =
    let upper : (high * 256 + low) / 256 % 256 ≡ high = omega arith in
    let lower : (high * 256 + low) % 256 ≡ low = omega arith in
    rw (upper, lower)

pub record Begun (m : ℕ) (e : Bytes) : Type 0 where
  pub whole : framed m (first_block e) ++ behind e ≡ e
  pub size : length (first_block e) ≡ word e 2
  pub short : length (first_block e) ≤ max_bytes
  pub there : 4 + word e 2 ≤ length e

pub begun : (m : ℕ) (e : Bytes) → Small e → has_frame m e ≡ true → Begun m e
unfolding word
begun m e small h =
    let number = and_parts (word e 0 == m) _ h in
    let rest = and_parts (nat_le (word e 2) max_bytes) (nat_le (4 + word e 2) (length e)) number.1 in
    let there : 4 + word e 2 ≤ length e = leb-true (4 + word e 2) (length e) rest.1 in
    let size : length (first_block e) ≡ word e 2 = length-take-le (word e 2) (drop 4 e) (omega (arith, length-drop 4 e)) in
    let short : word e 2 ≤ max_bytes = leb-true (word e 2) max_bytes rest.0 in
    record {
      whole = go e small (eqb-true (word e 0) m number.0) there size;
      size = size;
      short = omega (arith, size, short);
      there = there;
    }
  where
    go : (e : Bytes) → Small e → word e 0 ≡ m → 4 + word e 2 ≤ length e → length (first_block e) ≡ word e 2 → framed m (first_block e) ++ behind e ≡ e
    go [] small number there size = absurd (omega arith)
    go (a ∷ []) small number there size = absurd (omega arith)
    go (a ∷ (b ∷ [])) small number there size = absurd (omega arith)
    go (a ∷ (b ∷ (c ∷ []))) small number there size = absurd (omega arith)
    go (a ∷ (b ∷ (c ∷ (d ∷ r)))) small number there size =
        let n = ap two_bytes (sym number) ∙ two_back a b (small 0) (small 1) in
        let l = ap two_bytes size ∙ two_back c d (small 2) (small 3) in
        let split : take (c * 256 + d) r ++ drop (4 + (c * 256 + d)) (a ∷ (b ∷ (c ∷ (d ∷ r)))) ≡ r
        = ap (λ k. take (c * 256 + d) r ++ k) (sym (drop-drop (c * 256 + d) 4 (a ∷ (b ∷ (c ∷ (d ∷ r)))))) ∙ take-append-drop (c * 256 + d) r in
        ap (λ k. k ++ (two_bytes (length (take (c * 256 + d) r)) ++ (take (c * 256 + d) r ++ drop (4 + (c * 256 + d)) (a ∷ (b ∷ (c ∷ (d ∷ r))))))) n
        ∙ ap (λ k. a ∷ (b ∷ (k ++ (take (c * 256 + d) r ++ drop (4 + (c * 256 + d)) (a ∷ (b ∷ (c ∷ (d ∷ r)))))))) l
        ∙ ap (λ k. a ∷ (b ∷ (c ∷ (d ∷ k)))) split

-- what a frame says is read back from it
record Read (m : ℕ) (b rest e : Bytes) : Type 0 where
  number : word e 0 ≡ m
  size : word e 2 ≡ length b
  long : length e ≡ 4 + length b + length rest
  after : behind e ≡ rest

read_back : (m : ℕ) (b rest e : Bytes) → m < 65536 → length b ≤ max_bytes → framed m b ++ rest ≡ e → Read m b rest e
unfolding word
read_back m b rest e low short is =
    subst (Read m b rest) is
    (let size : word (framed m b ++ rest) 2 ≡ length b = omega arith in
    record {
      number = omega arith;
      size = size;
      long = omega (arith, length-append b rest);
      after = ap (λ k. drop (4 + k) (framed m b ++ rest)) size ∙ sym (drop-drop (length b) 4 (framed m b ++ rest)) ∙ drop_at b rest (length b) refl;
    })

-- a string is a frame and some rest exactly if it begins with that frame, and the rest is what stands behind it
pub framed_test : (m : ℕ) (rest e : Bytes) (t : Bool) → m < 65536 → Small e
    → (same (framed m (first_block e) ++ rest) e && (nat_le (length (first_block e)) max_bytes && t)) ≡ (has_frame m e && (same rest (behind e) && t))
framed_test m rest e t low small = same_from_decides _ _ (forth, back) (λ h. h, λ h. h)
  where
    forth : (same (framed m (first_block e) ++ rest) e && (nat_le (length (first_block e)) max_bytes && t)) ≡ true → (has_frame m e && (same rest (behind e) && t)) ≡ true
    forth h =
        let h0 = and_parts (same (framed m (first_block e) ++ rest) e) _ h in
        let h1 = and_parts (nat_le (length (first_block e)) max_bytes) t h0.1 in
        let short = leb-true (length (first_block e)) max_bytes h1.0 in
        let r = read_back m (first_block e) rest e low short (same_true _ _ h0.0) in
        let size = r.size in
        let long = r.long in
        and_from (has_frame m e) (same rest (behind e) && t)
        (and_from (word e 0 == m) _ (eq-eqb (word e 0) m r.number)
        (and_from (nat_le (word e 2) max_bytes) (nat_le (4 + word e 2) (length e)) (le-leb (word e 2) max_bytes (omega arith)) (le-leb (4 + word e 2) (length e) (omega arith))))
        (and_from (same rest (behind e)) t (rw r.after (same_refl rest)) h1.1)

    back : (has_frame m e && (same rest (behind e) && t)) ≡ true → (same (framed m (first_block e) ++ rest) e && (nat_le (length (first_block e)) max_bytes && t)) ≡ true
    back h =
        let h0 = and_parts (has_frame m e) _ h in
        let h1 = and_parts (same rest (behind e)) t h0.1 in
        let b = begun m e small h0.0 in
        let is : framed m (first_block e) ++ rest ≡ e = ap (λ k. framed m (first_block e) ++ k) (same_true rest (behind e) h1.0) ∙ b.whole in
        and_from (same (framed m (first_block e) ++ rest) e) _ (ap (λ k. same k e) is ∙ same_refl e)
        (and_from (nat_le (length (first_block e)) max_bytes) t (le-leb (length (first_block e)) max_bytes b.short) h1.1)

-- what stands behind a frame, by what the bytes say of it
pub begins : (m : ℕ) (e rest : Bytes) → behind_frame m e ≡ Some rest → (has_frame m e ≡ true) × (behind e ≡ rest)
unfolding behind_frame
begins m e rest h = go (has_frame m e) h
  where
    go : (b : Bool) → cond b (Some (behind e)) None ≡ Some rest → (b ≡ true) × (behind e ≡ rest)
    go true h = (refl, cc)
    go false h = cc

pub behind_shorter : (m : ℕ) (e rest : Bytes) → behind_frame m e ≡ Some rest → length rest ≤ length e
behind_shorter m e rest h = omega (arith, ap length (begins m e rest h).1, length-drop (4 + word e 2) e)

pub some_behind : {A : Type 0} (m : ℕ) (e : Bytes) (f : Bytes → Option A) → is_some (option_and_then f (behind_frame m e)) ≡ (has_frame m e && is_some (f (behind e)))
unfolding behind_frame
some_behind {A} m e f = go (has_frame m e)
  where
    go : (b : Bool) → is_some (option_and_then f (cond b (Some (behind e)) None)) ≡ (b && is_some (f (behind e)))
    go true = refl
    go false = refl
