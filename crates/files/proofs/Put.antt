-- All blocks, written to a buffer one behind another.
use Rattle.std.specs.Prelude.{◌≡◌, ℕ, ◌+◌, ◌≤◌, true, List, [], ◌∷◌, ◌++◌, length, take, drop, refl}
use Rattle.std.proofs.Common.{ap, ◌∙◌, arith, length-append}
use Rattle.digests.specs.Strings.{Bytes}
use Rattle.seals.specs.Images.{framed, framed_blocks}
use Rattle.seals.proofs.Buffer.{piece_behind}
use Rattle.seals.proofs.Framed.{whole_step, whole_end}
use Rattle.seals.proofs.Sealed.{all_written}
use Rattle.files.specs.File.{frames}

-- the frames that are done stand in front of what stood behind them; with those of the blocks that are left they are all
pub record PutSoFar (whole : Bytes) (count : ℕ) (left : List Bytes) (before out : Bytes) (place : ℕ) : Type 0 where
  pub done : Bytes
  pub joins : done ++ framed_blocks (λ _. true) (count + 1) left ≡ whole
  pub at : place ≡ length done
  pub here : out ≡ done ++ drop (length done) before

pub put_start : (bs : List Bytes) (count : ℕ) (left : List Bytes) (before : Bytes) → count ≡ 0 → left ≡ bs → PutSoFar (frames bs) count left before before 0
unfolding frames
put_start bs count left before none all = record { done = []; joins = rw (none, all) refl; at = refl; here = refl }

module _ (whole : Bytes) (before out : Bytes) (place : ℕ) where
  -- one block more is written
  module _ (count : ℕ) (b : Bytes) (bs : List Bytes) (p : PutSoFar whole count (b ∷ bs) before out place) where
    joined : (p.done ++ framed (count + 1) b) ++ framed_blocks (λ _. true) (count + 1 + 1) bs ≡ whole
    joined = whole_step p.done (count + 1) b bs whole p.joins

    pub put_room : place + 4 + length b ≤ length whole
    put_room =
        omega (
          arith,
          ap length joined,
          length-append (p.done ++ framed (count + 1) b) (framed_blocks (λ _. true) (count + 1 + 1) bs),
          length-append p.done (framed (count + 1) b),
          p.at,
        )

    pub put_more : (index next e : ℕ) (after : Bytes) → index ≡ count → next ≡ count + 1 → e ≡ place + 4 + length b
        → after ≡ take place out ++ (framed (index + 1) b ++ drop (place + 4 + length b) out) → PutSoFar whole next bs before after e
    put_more index next e after here on stop now =
        record {
          done = p.done ++ framed (count + 1) b;
          joins = rw on joined;
          at = omega (arith, stop, p.at, length-append p.done (framed (count + 1) b));
          here =
              now ∙ ap (λ k. take place out ++ (framed (k + 1) b ++ drop (place + 4 + length b) out)) here
              ∙ piece_behind before p.done (framed (count + 1) b) out place (place + 4 + length b) p.here p.at (omega arith);
        }

  pub put_end : (count : ℕ) (left : List Bytes) → left ≡ [] → length before ≡ length whole → PutSoFar whole count left before out place → out ≡ whole
  put_end count left none same p =
      let all : p.done ≡ whole = whole_end p.done (count + 1) left whole none p.joins in
      p.here ∙ ap (λ k. k ++ drop (length k) before) all ∙ all_written whole before same
