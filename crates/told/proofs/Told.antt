-- What is told of one row more, and of one number more.
use Rattle.std.proofs.Common.{◌≡◌, ℕ, zero, suc, ◌+◌, Bool, true, false, cond, List, [], ◌∷◌, ◌++◌, codes, decimal, sym, refl, ap, ◌∙◌, append_assoc, arith}
use Rattle.std.specs.List.{filter, range_with_len}
use Rattle.std.proofs.lemmas.List.{append-nil}
use Rattle.std.proofs.lemmas.List.Elements.{filter-append}
use Rattle.answers.specs.Refusals.{spaced}
use Rattle.families.specs.Shape.{Shape}
use Rattle.scripts.specs.Words.{Bytes}
use Rattle.told.specs.Texts.{family_text}

spaced_append : (xs ys : List ℕ) → spaced (xs ++ ys) ≡ spaced xs ++ spaced ys
spaced_append [] ys = refl
spaced_append (x ∷ xs) ys = ap (λ t. codes " " ++ t) (ap (λ t. decimal x ++ t) (spaced_append xs ys) ∙ sym (append_assoc (decimal x) (spaced xs) (spaced ys)))

range_suc : (a n j : ℕ) → a + n ≡ j → range_with_len a (suc n) ≡ range_with_len a n ++ j ∷ []
range_suc a zero j e = let same : a ≡ j = omega arith in ap (λ k. k ∷ []) same
range_suc a (suc n) j e = ap (λ ks. a ∷ ks) (range_suc (a + 1) n j (omega arith))

range_more : (n : ℕ) → range_with_len 1 (n + 1) ≡ range_with_len 1 n ++ (n + 1) ∷ []
range_more n = let on : n + 1 ≡ suc n = omega arith in ap (range_with_len 1) on ∙ range_suc 1 n (n + 1) (omega arith)

-- the rows up to n that hold a block
abbrev pub told_up_to : (ℕ → Bool) → ℕ → Bytes
told_up_to holds n = codes "rows" ++ spaced (filter holds (range_with_len 1 n))

told_more : (holds : ℕ → Bool) (n : ℕ) → told_up_to holds (n + 1) ≡ told_up_to holds n ++ spaced (cond (holds (n + 1)) ((n + 1) ∷ []) [])
told_more holds n =
    ap (λ rows. codes "rows" ++ spaced rows) (ap (filter holds) (range_more n) ∙ filter-append holds (range_with_len 1 n) ((n + 1) ∷ []))
    ∙ ap (λ t. codes "rows" ++ t) (spaced_append (filter holds (range_with_len 1 n)) (cond (holds (n + 1)) ((n + 1) ∷ []) []))

-- the next row holds the block, or it does not
pub told_on : (holds : ℕ → Bool) (n : ℕ) (old new : Bytes) → holds (n + 1) ≡ true → old ≡ told_up_to holds n → new ≡ old ++ (codes " " ++ decimal (n + 1)) → new ≡ told_up_to holds (n + 1)
told_on holds n old new h o e =
    e ∙ ap (λ t. t ++ (codes " " ++ decimal (n + 1))) o ∙ ap (λ t. told_up_to holds n ++ (codes " " ++ t)) (sym (append-nil (decimal (n + 1))))
    ∙ ap (λ b. told_up_to holds n ++ spaced (cond b ((n + 1) ∷ []) [])) (sym h) ∙ sym (told_more holds n)

pub told_past : (holds : ℕ → Bool) (n : ℕ) (old : Bytes) → holds (n + 1) ≡ false → old ≡ told_up_to holds n → old ≡ told_up_to holds (n + 1)
told_past holds n old h o = o ∙ sym (append-nil (told_up_to holds n)) ∙ ap (λ b. told_up_to holds n ++ spaced (cond b ((n + 1) ∷ []) [])) (sym h) ∙ sym (told_more holds n)

-- six numbers, of which the last has nothing behind it
pub family_told : (f : Shape) (kind q k n t d : ℕ) → kind ≡ f.kind → q ≡ f.q → k ≡ f.k → n ≡ f.blocks → t ≡ f.rows → d ≡ f.strength
    → codes "family " ++ (decimal kind ++ (codes " " ++ (decimal q ++ (codes " " ++ (decimal k ++ (codes " " ++ (decimal n ++ (codes " " ++ (decimal t ++ (codes " " ++ decimal d))))))))))
    ≡ family_text f
family_told f kind q k n t d e1 e2 e3 e4 e5 e6 = rw (append-nil, e1, e2, e3, e4, e5, e6) refl
