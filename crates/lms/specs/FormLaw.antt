-- How Algorithm 6 reads a public key, and the tests of Algorithms 6a and 4b in short. Assumes nothing.
use Rattle.std.proofs.Common.{◌≡◌, ℕ, ◌<◌, Bool, true, false, ◌&&◌, eqb, ltb, leb, ◌++◌, length, sym, refl, ap, ◌∙◌, ap₂, ⊎_elim, arith}
use mathlib.Core.Bool.{and-true, and-false}
use Rattle.std.proofs.lemmas.List.{length-append}
use Rattle.std.proofs.lemmas.Bool.{le-leb, eq-eqb, ne_eqb, ltb-true, lt-ltb, eqb-true, cases_eq, cases_Bool, and_parts}
use Rattle.digests.specs.Strings.{Bytes, same}
use Rattle.lms.specs.Strings.{Hash, u32str, str_to_u32, bytes_at}
use Rattle.lms.specs.Lmots.{lmots_form}
use Rattle.lms.specs.Law.{Accepted, AcceptsExactlyIf}
use Rattle.lms.specs.Lms.{public_key, lms_form, lms_candidate, lms_accepts, lms_says}
use Rattle.lms.specs.StringsLaw.{same_equal, same_true, length_u32str, str_to_u32_u32str, bytes_left, bytes_right, bytes_whole, bytes_mid, bytes_part, length_part}

module _ (id root : Bytes) (id_sized : length id ≡ 16) (root_sized : length root ≡ 32) where
  pub length_public_key : length (public_key id root) ≡ 56
  unfolding public_key
  length_public_key = simp (length-append, length_u32str, id_sized, root_sized)

  public_type : bytes_at (public_key id root) 0 4 ≡ u32str 5
  unfolding public_key
  public_type =
      bytes_left (u32str 5 ++ u32str 4 ++ id) root 0 4 (simp (length-append, length_u32str) (omega arith))
      ∙ bytes_left (u32str 5 ++ u32str 4) id 0 4 (simp (length-append, length_u32str) (omega arith))
      ∙ bytes_left (u32str 5) (u32str 4) 0 4 (simp length_u32str (omega arith))
      ∙ bytes_whole (u32str 5) 4 (length_u32str 5)

  public_ots_type : bytes_at (public_key id root) 4 4 ≡ u32str 4
  unfolding public_key
  public_ots_type =
      bytes_left (u32str 5 ++ u32str 4 ++ id) root 4 4 (simp (length-append, length_u32str) (omega arith))
      ∙ bytes_mid (u32str 5) (u32str 4) id 4 4 (length_u32str 5) (length_u32str 4)

  public_id : bytes_at (public_key id root) 8 16 ≡ id
  unfolding public_key
  public_id = bytes_mid (u32str 5 ++ u32str 4) id root 8 16 (simp (length-append, length_u32str)) id_sized

  public_root : bytes_at (public_key id root) 24 32 ≡ root
  unfolding public_key
  public_root = bytes_right (u32str 5 ++ u32str 4 ++ id) root 24 0 32 (simp (length-append, length_u32str, id_sized)) ∙ bytes_whole root 32 root_sized

and_three : {a b c : Bool} (d e : Bool) → a ≡ true → b ≡ true → c ≡ true → (a && b && c && d && e) ≡ (d && e)
and_three d e e₁ e₂ e₃ = rw (e₁, e₂, e₃)

-- Algorithm 6 under a public key
pub accepts_is : (hash : Hash) (id root : Bytes) → length id ≡ 16 → length root ≡ 32 → (message signature : Bytes) →
    lms_accepts hash (public_key id root) message signature ≡ (lms_form 5 4 signature && same (lms_candidate hash id message signature) root)
unfolding lms_accepts
accepts_is hash id root id_sized root_sized message sig =
    let pk : Bytes = public_key id root in
    let e : length pk ≡ 56 = length_public_key id root id_sized root_sized in
    let t : str_to_u32 (bytes_at pk 0 4) ≡ 5 = ap str_to_u32 (public_type id root id_sized root_sized) ∙ str_to_u32_u32str 5 (omega arith) in
    let o : str_to_u32 (bytes_at pk 4 4) ≡ 4 = ap str_to_u32 (public_ots_type id root id_sized root_sized) ∙ str_to_u32_u32str 4 (omega arith) in
    and_three (lms_form (str_to_u32 (bytes_at pk 0 4)) (str_to_u32 (bytes_at pk 4 4)) sig) (same (lms_candidate hash (bytes_at pk 8 16) message sig) (bytes_at pk 24 32))
    (le-leb 8 (length pk) (omega arith)) (eq-eqb (str_to_u32 (bytes_at pk 0 4)) 5 t) (eq-eqb (length pk) 56 e)
    ∙ ap₂ (λ a b. a && b) (ap₂ (λ a b. lms_form a b sig) t o)
    (ap₂ (λ a b. same (lms_candidate hash a message sig) b) (public_id id root id_sized root_sized) (public_root id root id_sized root_sized))

-- the signature's form in short
abbrev pub lms_form_short : Bytes → Bool
lms_form_short signature =
    eqb (length signature) 1292
    && eqb (str_to_u32 (bytes_at signature 4 4)) 4
    && eqb (str_to_u32 (bytes_at signature 1128 4)) 5
    && ltb (str_to_u32 (bytes_at signature 0 4)) 32

-- the test of Algorithm 4b on a signature of the right length
lmots_form_is : (signature : Bytes) → length signature ≡ 1292 → lmots_form 4 (bytes_at signature 4 1124) ≡ eqb (str_to_u32 (bytes_at signature 4 4)) 4
unfolding lmots_form
lmots_form_is sig e =
    let l : length (bytes_at sig 4 1124) ≡ 1124 = length_part sig 4 1124 (omega arith) in
    only_type (eqb (str_to_u32 (bytes_at (bytes_at sig 4 1124) 0 4)) 4) (le-leb 4 (length (bytes_at sig 4 1124)) (omega arith)) (eq-eqb (length (bytes_at sig 4 1124)) 1124 l)
    ∙ ap (λ (s : Bytes). eqb (str_to_u32 s) 4) (bytes_part sig 4 1124 0 4 (omega arith))
  where
    only_type : {a c : Bool} (b : Bool) → a ≡ true → c ≡ true → (a && b && true && c) ≡ b
    only_type b e₁ e₂ = rw (e₁, e₂) (ap (λ (x : Bool). x && true) (and-true b) ∙ and-true b)

wrong_length : {f : Bool} (a b c d e g : Bool) → f ≡ false → (a && b && c && d && e && f && g) ≡ (f && b && d && e)
wrong_length a b c d e g e₁ = rw e₁ (ap (λ (x : Bool). x && g) (and-false (a && b && c && d && e)))

same_tests : (b d e : Bool) → (b && true && d && e && true && b) ≡ (b && d && e)
same_tests false d e = refl
same_tests true false e = refl
same_tests true true false = refl
same_tests true true true = refl

right_length : {a c f : Bool} (b d e g : Bool) → a ≡ true → c ≡ true → f ≡ true → g ≡ b → (a && b && c && d && e && f && g) ≡ (f && b && d && e)
right_length b d e g e₁ e₂ e₃ e₄ = rw (e₁, e₂, e₃, e₄) (same_tests b d e)

pub lms_form_is : (signature : Bytes) → lms_form 5 4 signature ≡ lms_form_short signature
unfolding lms_form
lms_form_is sig = ⊎_elim right wrong (cases_eq (length sig) 1292)
  where
    t : Bool
    t = eqb (str_to_u32 (bytes_at sig 4 4)) 4

    u : Bool
    u = eqb (str_to_u32 (bytes_at sig 1128 4)) 5

    v : Bool
    v = ltb (str_to_u32 (bytes_at sig 0 4)) 32

    right : length sig ≡ 1292 → lms_form 5 4 sig ≡ lms_form_short sig
    right e =
        right_length t u v (lmots_form 4 (bytes_at sig 4 1124)) (le-leb 8 (length sig) (omega arith)) (le-leb 1132 (length sig) (omega arith))
        (eq-eqb (length sig) 1292 e) (lmots_form_is sig e)

    wrong : (length sig ≡ 1292 → ⊥) → lms_form 5 4 sig ≡ lms_form_short sig
    wrong f =
        wrong_length (leb 8 (length sig)) t (leb 1132 (length sig)) u v (lmots_form 4 (bytes_at sig 4 1124)) (ne_eqb (length sig) 1292 f)

and_four : {a b c d : Bool} → a ≡ true → b ≡ true → c ≡ true → d ≡ true → (a && b && c && d) ≡ true
and_four e₁ e₂ e₃ e₄ = rw (e₁, e₂, e₃, e₄)

and_five : {a b c d e : Bool} → a ≡ true → b ≡ true → c ≡ true → d ≡ true → e ≡ true → (a && b && c && d && e) ≡ true
and_five e₁ e₂ e₃ e₄ e₅ = rw (e₁, e₂, e₃, e₄, e₅)

four_parts : (a b c d : Bool) → (a && b && c && d) ≡ true → (a ≡ true) × (b ≡ true) × (c ≡ true) × (d ≡ true)
four_parts a b c d e =
    let h₁ = and_parts (a && b && c) d e in
    let h₂ = and_parts (a && b) c h₁.0 in
    let h₃ = and_parts a b h₂.0 in
    (h₃.0, h₃.1, h₂.1, h₁.1)

-- Algorithm 6 under any public key
module _ (hash : Hash) (public message signature : Bytes) where
  same_root : Bool
  same_root = same (lms_candidate hash (bytes_at public 8 16) message signature) (bytes_at public 24 32)

  -- the one-time type of a form that passes
  ots_type_known : (t o : ℕ) → lms_form t o signature ≡ true → o ≡ 4
  unfolding lms_form lmots_form
  ots_type_known t o e =
      let part : Bytes = bytes_at signature 4 1124 in
      let f = and_parts
      (leb 8 (length signature) && eqb (str_to_u32 (bytes_at signature 4 4)) o && leb 1132 (length signature)
      && eqb (str_to_u32 (bytes_at signature 1128 4)) t && ltb (str_to_u32 (bytes_at signature 0 4)) 32 && eqb (length signature) 1292)
      (lmots_form o part) e in
      eqb-true o 4 (four_parts (leb 4 (length part)) (eqb (str_to_u32 (bytes_at part 0 4)) o) (eqb o 4) (eqb (length part) 1124) f.1).2

  forwards : lms_accepts hash public message signature ≡ true → Accepted hash public message signature
  unfolding lms_accepts same_root
  forwards e =
      let t : ℕ = str_to_u32 (bytes_at public 0 4) in
      let o : ℕ = str_to_u32 (bytes_at public 4 4) in
      let h₁ = and_parts (leb 8 (length public) && eqb t 5 && eqb (length public) 56 && lms_form t o signature) same_root e in
      let h₂ = four_parts (leb 8 (length public)) (eqb t 5) (eqb (length public) 56) (lms_form t o signature) h₁.0 in
      let t_is = eqb-true t 5 h₂.1 in
      let o_is = ots_type_known t o h₂.3 in
      let h₃ = four_parts (eqb (length signature) 1292) (eqb (str_to_u32 (bytes_at signature 4 4)) 4) (eqb (str_to_u32 (bytes_at signature 1128 4)) 5)
      (ltb (str_to_u32 (bytes_at signature 0 4)) 32)
      (sym (ap₂ (λ a b. lms_form a b signature) t_is o_is ∙ lms_form_is signature) ∙ h₂.3) in
      record {
        key_long = eqb-true (length public) 56 h₂.2;
        key_type = t_is;
        key_ots_type = o_is;
        long = eqb-true (length signature) 1292 h₃.0;
        leaf = ltb-true (str_to_u32 (bytes_at signature 0 4)) 32 h₃.3;
        ots_type = eqb-true (str_to_u32 (bytes_at signature 4 4)) 4 h₃.1;
        type = eqb-true (str_to_u32 (bytes_at signature 1128 4)) 5 h₃.2;
        root = same_true (lms_candidate hash (bytes_at public 8 16) message signature) (bytes_at public 24 32) h₁.1;
      }

  backwards : Accepted hash public message signature → lms_accepts hash public message signature ≡ true
  unfolding lms_accepts same_root
  backwards a =
      and_five (le-leb 8 (length public) (omega arith)) (eq-eqb (str_to_u32 (bytes_at public 0 4)) 5 a.key_type) (eq-eqb (length public) 56 a.key_long)
      (ap₂ (λ t o. lms_form t o signature) a.key_type a.key_ots_type ∙ lms_form_is signature
      ∙ and_four (eq-eqb (length signature) 1292 a.long) (eq-eqb (str_to_u32 (bytes_at signature 4 4)) 4 a.ots_type)
      (eq-eqb (str_to_u32 (bytes_at signature 1128 4)) 5 a.type) (lt-ltb (str_to_u32 (bytes_at signature 0 4)) 32 a.leaf))
      (same_equal (lms_candidate hash (bytes_at public 8 16) message signature) (bytes_at public 24 32) a.root)

pub accepts_exactly_if : AcceptsExactlyIf
accepts_exactly_if hash public message signature = (forwards hash public message signature, backwards hash public message signature)

pub not_accepted : (hash : Hash) (public message signature : Bytes) → (Accepted hash public message signature → ⊥) → lms_accepts hash public message signature ≡ false
not_accepted hash public message signature f =
    ⊎_elim (λ e. absurd (f (forwards hash public message signature e))) (λ e. e) (cases_Bool (lms_accepts hash public message signature))

-- a signature of the right length has the right form by its two types and its leaf
pub form_of_size : (signature : Bytes) → length signature ≡ 1292 →
    lms_form 5 4 signature ≡ (eqb (str_to_u32 (bytes_at signature 4 4)) 4 && eqb (str_to_u32 (bytes_at signature 1128 4)) 5 && ltb (str_to_u32 (bytes_at signature 0 4)) 32)
form_of_size sig e =
    lms_form_is sig
    ∙ ap (λ (b : Bool). b && eqb (str_to_u32 (bytes_at sig 4 4)) 4 && eqb (str_to_u32 (bytes_at sig 1128 4)) 5 && ltb (str_to_u32 (bytes_at sig 0 4)) 32) (eq-eqb (length sig) 1292 e)

pub leaf_below : (signature : Bytes) → lms_form 5 4 signature ≡ true → str_to_u32 (bytes_at signature 0 4) < 32
leaf_below sig e =
    let parts = four_parts (eqb (length sig) 1292) (eqb (str_to_u32 (bytes_at sig 4 4)) 4) (eqb (str_to_u32 (bytes_at sig 1128 4)) 5)
    (ltb (str_to_u32 (bytes_at sig 0 4)) 32) (sym (lms_form_is sig) ∙ e) in
    ltb-true (str_to_u32 (bytes_at sig 0 4)) 32 parts.3

pub says_of_other_length : (hash : Hash) (public : Bytes) (number : ℕ) (text signature : Bytes) → (length signature ≡ 1292 → ⊥) → lms_says hash public number text signature ≡ false
unfolding lms_says
says_of_other_length hash public number text signature f =
    ap (λ (b : Bool). b && eqb (str_to_u32 (bytes_at signature 0 4)) number) (not_accepted hash public text signature (λ a. f a.long))
