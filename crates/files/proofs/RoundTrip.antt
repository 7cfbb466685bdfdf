-- What was packed is unpacked, what was unpacked is packed into the same file, and so a file has one sheet and one seal part.
use Rattle.std.proofs.Common.{◌≡◌, ℕ, ◌≤◌, Bool, true, false, not, List, [], ◌∷◌, ◌++◌, length, take, Ok, is_ok, sym, refl, ap, ◌∙◌, subst, arith}
use Rattle.std.proofs.lemmas.List.{take_at}
use Rattle.std.proofs.lemmas.Bool.{true≢false}
use Rattle.answers.specs.declared.Refusal.{Refusal}
use Rattle.answers.specs.declared.Refusal.TheVariants.{Malformed, SheetNotEmpty}
use Rattle.answers.specs.Refusals.{unless}
use Rattle.digests.specs.Strings.{Bytes}
use Rattle.sheets.specs.declared.sheet.Sheet.{Sheet}
use Rattle.sheets.specs.Blocks.{blocks_of}
use Rattle.sheets.specs.Table.{max_bytes}
use Rattle.sheets.specs.Calls.{total_bytes}
use Rattle.seals.proofs.Framed.{fits}
use Rattle.files.specs.File.{file_of, pack_answer, seal_place, seal_of, is_file, blocks_of_file, unpack_answer}
use Rattle.files.specs.RoundTrip.{AllBytes, PackedFrom, Unpacks, Opens, RoundTrip}
use Rattle.files.proofs.Packed.{made}
use Rattle.files.proofs.ReadBack.{read_back}
use Rattle.files.proofs.Written.{packed_from}

unpacks_file : (file : Bytes) (bs : List Bytes) (part : Bytes) (room : ℕ) → total_bytes bs ≤ max_bytes → AllBytes part → pack_answer bs part room ≡ Ok file → Unpacks file bs part
unpacks_file file bs part room few bytes packed =
    let m = made bs part room file packed in
    subst (λ f. Unpacks f bs part) m.0 (read_back bs part few bytes room m.1)

-- what pack wrote in front of a buffer
pub written_unpacks : (s : Sheet) (part : Bytes) (room n : ℕ) (written rest : Bytes) → AllBytes part
    → pack_answer (blocks_of s) part room ≡ Ok (file_of (blocks_of s) part) → written ≡ file_of (blocks_of s) part → n ≡ length (file_of (blocks_of s) part)
    → Unpacks (take n (written ++ rest)) (blocks_of s) part
written_unpacks s part room n written rest bytes packed is size =
    subst (λ f. Unpacks f (blocks_of s) part) (sym (take_at written rest n (ap length is ∙ sym size) ∙ is))
    (unpacks_file (file_of (blocks_of s) part) (blocks_of s) part room (fits s) bytes packed)

was_packed : (file : Bytes) (bs : List Bytes) (part : Bytes) → PackedFrom file bs part → Unpacks file bs part
was_packed file bs part p = unpacks_file file bs part (length file) p.fits p.bytes (p.packs (length file) (omega arith))

-- what unpack takes is a file
opened : (file : Bytes) → Opens file → is_file file ≡ true
unfolding unpack_answer
opened file h = go (is_file file) refl h
  where
    go : (b : Bool) → is_file file ≡ b → is_ok {T = ℕ × ℕ} {E = Refusal} (unless ((false, SheetNotEmpty) ∷ ((not b, Malformed) ∷ [])) (seal_place file, length (seal_of file))) ≡ true
        → is_file file ≡ true
    go true e k = e
    go false e k = absurd (true≢false (sym k))

opens : (file : Bytes) (bs : List Bytes) (part : Bytes) → Unpacks file bs part → Opens file
opens file bs part u = ap is_ok u.answer

pub round_trip : RoundTrip
round_trip =
    record {
      unpacked = was_packed;
      packed = λ file bytes opens. packed_from file bytes (opened file opens);
      apart = λ file bs cs part other p q.
          let u = was_packed file bs part p in
          let v = was_packed file cs other q in
          (sym u.blocks ∙ v.blocks, sym u.seal ∙ v.seal);
      exact = λ file bytes. (
        λ h. (blocks_of_file file, (seal_of file, packed_from file bytes (opened file h))),
        λ h. opens file h.0 h.1.0 (was_packed file h.0 h.1.0 h.1.1),
      );
    }
