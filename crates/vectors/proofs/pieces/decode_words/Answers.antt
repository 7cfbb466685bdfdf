use Rattle.std.proofs.Common.{◌≡◌, rules, List, [], ◌∷◌, ◌++◌, map, Some, None, Err, Option, Result, Global, vec_items, sym, refl, ap, ◌∙◌, append_assoc}
use Rattle.std.specs.Option.{option_map}
use Rattle.std.proofs.lemmas.List.{append-nil, map-append}
use Rattle.std.proofs.lemmas.Result.{err_from_is_err_and}
use Rattle.scripts.specs.declared.error.ParseError.{ParseError}
use Rattle.scripts.specs.declared.error.ParseError.TheVariants.{NotUnderstood, OutOfMemory}
use Rattle.scripts.specs.Words.{Bytes}
use Rattle.scripts.specs.Hex.{both, hex_bytes}
use Rattle.scripts.specs.Lines.{parts_behind}
use Rattle.scripts.specs.Reading.{Reads}
use Rattle.scripts.proofs.LineLemmas.{yields_parts, yields_more, yields_end}
use Rattle.vectors.specs.Pieced.{pieces_in, all_hex, words_pieces}
use Rattle.vectors.proofs.pieces.decode_words.Goals as goal

pub loop-word-init : goal.loop-word-init
unfolding words_pieces
loop-word-init c =
    let words = c.args.words.now in
    let none : (o : Option (List Bytes)) → option_map (λ t. [] ++ t) o ≡ o = λ o. elim o as (λ p. option_map (λ t. [] ++ t) p ≡ p) [ None ↦ refl | Some t ↦ refl ] in (
      parts_behind 32 [] words,
      yields_parts 32 words _ (search rules) (search rules) (search rules) (λ x b q k. search rules),
      ap (λ ps. option_map (λ t. map vec_items ps ++ t) (all_hex (parts_behind 32 [] words))) c.new-pieces.ensures.items ∙ none (all_hex (parts_behind 32 [] words)),
    )

-- a word that is not hex
stops : (words rest : List Bytes) (word : Bytes) (so_far : List Bytes) (all : Option (List Bytes)) → words ≡ word ∷ rest → hex_bytes word ≡ None → option_map (λ t. so_far ++ t) (all_hex words) ≡ all → all ≡ None
unfolding all_hex
stops words rest word so_far all w n e = sym e ∙ rw (w, n) refl

refused : {X A B : Type 0} (f : X → B) (said : Option B) (g : A → List Bytes) (all : Option (List Bytes)) (r : Result A ParseError) (e : ParseError)
    → r ≡ Err e → Reads f said (Err e) → (said ≡ None → all ≡ None) → Reads g all r
refused f said g all r NotUnderstood q h n = rw q (n h)
refused f said g all r (OutOfMemory a) q h n = rw q tt

pub returns-in_err-decode_hex : goal.returns-in_err-decode_hex
returns-in_err-decode_hex c =
    let next = yields_more {t = c.next.new.self} c.loop-word.invariant.0 c.in-Some.word c.loop-word.invariant.1 c.in-Some.ensures.steps in
    let out = err_from_is_err_and c.from_residual.result c.from_residual.ensures.1 in
    refused (vec_items {Z = Global}) (hex_bytes c.in-Some.word.now) pieces_in _ c.from_residual.result c.in_err-decode_hex.field-0.0 (out.1 ∙ ap (λ e. Err e) out.2) c.in_err-decode_hex.ensures
    (λ n. stops c.loop-word.invariant.0 next.0 c.in-Some.word.now (pieces_in c.loop-word.pieces) _ next.1 n c.loop-word.invariant.2)

-- a word that is hex stands behind the pieces so far
goes_on : (words rest : List Bytes) (word b : Bytes) (old new : List Bytes) (all : Option (List Bytes)) → words ≡ word ∷ rest → hex_bytes word ≡ Some b → new ≡ old ++ b ∷ []
    → option_map (λ t. old ++ t) (all_hex words) ≡ all → option_map (λ t. new ++ t) (all_hex rest) ≡ all
unfolding all_hex
goes_on words rest word b old new all w s n e =
    let joins : (o : Option (List Bytes)) → option_map (λ t. (old ++ b ∷ []) ++ t) o ≡ option_map (λ t. old ++ t) (both (λ x xs. x ∷ xs) (Some b) o)
    = λ o. elim o as (λ p. option_map (λ t. (old ++ b ∷ []) ++ t) p ≡ option_map (λ t. old ++ t) (both (λ x xs. x ∷ xs) (Some b) p)) [ None ↦ refl | Some t ↦ ap (λ x. Some x) (append_assoc old (b ∷ []) t) ] in
    let first : all_hex words ≡ both (λ x xs. x ∷ xs) (Some b) (all_hex rest) = rw (w, s) refl in
    rw n (joins (all_hex rest) ∙ ap (option_map (λ t. old ++ t)) (sym first) ∙ e)

pub loop-word-preserved : goal.loop-word-preserved
loop-word-preserved c =
    let next = yields_more c.loop-word.invariant.0 c.in-Some.word c.loop-word.invariant.1 c.in-Some.ensures.steps in
    let old = vec_items c.loop-word.pieces in
    let pushed : pieces_in c.push.new.self ≡ pieces_in c.loop-word.pieces ++ vec_items c.in_ok-decode_hex.field-0 ∷ [] = ap (map vec_items) c.in_ok-push.ensures.items ∙ map-append vec_items old (c.in_ok-decode_hex.field-0 ∷ []) in
    (next.0, next.2, goes_on _ _ _ _ _ _ _ next.1 c.in_ok-decode_hex.ensures pushed c.loop-word.invariant.2)

pub returns : goal.returns
unfolding all_hex
returns c =
    let none = yields_end c.loop-word.invariant.0 c.loop-word.invariant.1 c.in-None.ensures.steps in
    sym c.loop-word.invariant.2 ∙ ap (λ ws. option_map (λ t. pieces_in c.loop-word.pieces ++ t) (all_hex ws)) none ∙ ap (λ t. Some t) (append-nil (pieces_in c.loop-word.pieces))
