-- What a buffered state stands for after one piece more.
use Rattle.std.proofs.Common.{◌≡◌, ℕ, zero, suc, ◌*◌, ◌≤◌, ◌++◌, length, take, drop, sym, ap, ◌∙◌, inl, append_assoc, arith, length-drop}
use Rattle.std.specs.List.{flat_map}
use Rattle.std.specs.Simd.{first_chunks}
use Rattle.std.proofs.lemmas.List.{take-append-drop, nil_from_length}
use Rattle.digests.specs.Strings.{Bytes}
use Rattle.digests.specs.Took.{Took}

-- a full block is absorbed, then more blocks, and the last bytes are held
pub turned_over : {S : Type 0} (absorbed : S → Bytes → Type 0) (before between after : S) (held full first rest blocks last piece bs : Bytes)
    → ((xs : Bytes) → absorbed before xs → absorbed between (xs ++ full)) → full ≡ held ++ first
    → ((xs : Bytes) → absorbed between xs → absorbed after (xs ++ blocks)) → blocks ++ last ≡ rest
    → first ++ rest ≡ piece → 1 ≤ length last
    → Took absorbed before held bs → Took absorbed after last (bs ++ piece)
turned_over absorbed before between after held full first rest blocks last piece bs one filled more split cut some t =
    let front = t.front in
    record {
      front = (front ++ full) ++ blocks;
      gone = more (front ++ full) (one front t.gone);
      joined =
          append_assoc (front ++ full) blocks last
          ∙ ap (λ x. (front ++ full) ++ x) split
          ∙ ap (λ x. (front ++ x) ++ rest) filled
          ∙ ap (λ x. x ++ rest) (sym (append_assoc front held first))
          ∙ append_assoc (front ++ held) first rest
          ∙ ap (λ x. (front ++ held) ++ x) cut
          ∙ ap (λ x. x ++ piece) t.joined;
      lazy = inl some;
    }

-- the chunks of a string that they fill are the string
pub flat_chunks : (n k : ℕ) (xs : Bytes) → length xs ≡ k * n → flat_map (λ b. b) (first_chunks n k xs) ≡ xs
flat_chunks n zero xs e = sym (nil_from_length xs (omega arith))
flat_chunks n (suc k) xs e =
    ap (λ r. take n xs ++ r) (flat_chunks n k (drop n xs) (length-drop n xs ∙ omega arith)) ∙ take-append-drop n xs
