-- The other blocks of a row, written to a buffer one behind another.
use Rattle.std.specs.Prelude.{◌≡◌, ℕ, ◌+◌, ◌≤◌, List, [], ◌∷◌, ◌++◌, length, take, drop, refl, ◌≢◌}
use Rattle.std.proofs.Common.{sym, ap, ◌∙◌, arith, append_assoc, length-append}
use Rattle.std.proofs.lemmas.List.{append-nil}
use Rattle.digests.specs.Strings.{Bytes}
use Rattle.sheets.specs.Calls.{block_at}
use Rattle.seals.specs.Images.{framed}
use Rattle.seals.proofs.Buffer.{piece_behind}
use Rattle.seals.proofs.Rest.{rest, rest_own, rest_other, rest_none}

-- the frames that are done stand in front of what stood behind them; with those of the blocks ms they are the whole rest
pub record PutSoFar (bs : List Bytes) (j : ℕ) (ms : List ℕ) (whole before out : Bytes) (place : ℕ) : Type 0 where
  pub done : Bytes
  pub joins : done ++ rest bs j ms ≡ whole
  pub at : place ≡ length done
  pub here : out ≡ done ++ drop (length done) before

module _ (bs : List Bytes) (j : ℕ) (whole before : Bytes) where
  pub put_start : (ms : List ℕ) → rest bs j ms ≡ whole → PutSoFar bs j ms whole before before 0
  put_start ms e = record { done = []; joins = e; at = refl; here = refl }

  module _ (out : Bytes) (place m : ℕ) (ms : List ℕ) (p : PutSoFar bs j (m ∷ ms) whole before out place) where
    pub put_own : m ≡ j → PutSoFar bs j ms whole before out place
    put_own e = record { done = p.done; joins = ap (λ k. p.done ++ k) (sym (rest_own bs j m ms e)) ∙ p.joins; at = p.at; here = p.here }

    joined : m ≢ j → (p.done ++ framed m (block_at bs m)) ++ rest bs j ms ≡ whole
    joined other = append_assoc p.done (framed m (block_at bs m)) (rest bs j ms) ∙ ap (λ k. p.done ++ k) (sym (rest_other bs j m ms other)) ∙ p.joins

    pub put_room : m ≢ j → place + 4 + length (block_at bs m) ≤ length whole
    put_room other =
        omega (
          arith,
          ap length (joined other),
          length-append (p.done ++ framed m (block_at bs m)) (rest bs j ms),
          length-append p.done (framed m (block_at bs m)),
          p.at,
        )

    pub put_more : m ≢ j → (b after : Bytes) (e : ℕ) → b ≡ block_at bs m → e ≡ place + 4 + length b
        → after ≡ take place out ++ (framed m b ++ drop (place + 4 + length b) out) → PutSoFar bs j ms whole before after e
    put_more other b after e same stop now =
        record {
          done = p.done ++ framed m b;
          joins = ap (λ k. (p.done ++ framed m k) ++ rest bs j ms) same ∙ joined other;
          at = omega (arith, stop, p.at, length-append p.done (framed m b));
          here = now ∙ piece_behind before p.done (framed m b) out place (place + 4 + length b) p.here p.at (omega arith);
        }

  pub put_end : (out : Bytes) (place : ℕ) (ms : List ℕ) → ms ≡ [] → PutSoFar bs j ms whole before out place → out ≡ whole ++ drop (length whole) before
  put_end out place ms none p =
      let all : p.done ≡ whole = sym (append-nil p.done) ∙ ap (λ k. p.done ++ k) (sym (rest_none bs j ms none)) ∙ p.joins in
      p.here ∙ ap (λ k. k ++ drop (length k) before) all
