use Rattle.std.proofs.Common.{refl}
use Rattle.keyfiles.specs.declared.key.AnyInspector.TheVariants.{TagSha256, TagBlake2s, Lms}
use Rattle.keyfiles.proofs.key.AnyKeySealer.draw_number.Goals as goal

pub returns-in-TagSha256-clause-kept : goal.returns-in-TagSha256-clause-kept
returns-in-TagSha256-clause-kept c =
    let h = c.draw_number.ensures.kept in
    rw c.in-TagSha256.is
    (record {
      same_kind = refl;
      same_says = h.same_says;
      same_signature = h.same_signature;
      still_own = elim [ TagSha256 i ↦ h.still_own i | TagBlake2s i ↦ λ e. e | Lms i ↦ λ e. e ];
      no_more_own = elim [ TagSha256 i ↦ h.no_more_own i | TagBlake2s i ↦ λ e. e | Lms i ↦ λ e. e ];
    })

pub returns-in-TagBlake2s-clause-kept : goal.returns-in-TagBlake2s-clause-kept
returns-in-TagBlake2s-clause-kept c =
    let h = c.draw_number-in-TagBlake2s.ensures.kept in
    rw c.in-TagBlake2s.is
    (record {
      same_kind = refl;
      same_says = h.same_says;
      same_signature = h.same_signature;
      still_own = elim [ TagSha256 i ↦ λ e. e | TagBlake2s i ↦ h.still_own i | Lms i ↦ λ e. e ];
      no_more_own = elim [ TagSha256 i ↦ λ e. e | TagBlake2s i ↦ h.no_more_own i | Lms i ↦ λ e. e ];
    })

pub returns-in-Lms-clause-kept : goal.returns-in-Lms-clause-kept
returns-in-Lms-clause-kept c =
    let h = c.draw_number-in-Lms.ensures.kept in
    rw c.in-Lms.is
    (record {
      same_kind = refl;
      same_says = h.same_says;
      same_signature = h.same_signature;
      still_own = elim [ TagSha256 i ↦ λ e. e | TagBlake2s i ↦ λ e. e | Lms i ↦ h.still_own i ];
      no_more_own = elim [ TagSha256 i ↦ λ e. e | TagBlake2s i ↦ λ e. e | Lms i ↦ h.no_more_own i ];
    })
