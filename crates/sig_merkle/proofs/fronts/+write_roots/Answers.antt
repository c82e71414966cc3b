use Rattle.std.proofs.Common.{rules, ◌≡◌, ◌+◌, ◌-◌, ◌<◌, length, get_or, refl, sym, ap, ◌∙◌, arith}
use Rattle.std.proofs.lemmas.List.{length-map}
use Rattle.sig_merkle.proofs.FrontLists.{entries-some, leaf-roots, all-roots, low-counts, high-counts, fronts_steps}
use Rattle.sig_merkle.proofs.HalfSteps.{halves-length, root-over, root-single}
use Rattle.sig_merkle.specs.Root.{root}
use Rattle.sig_merkle.proofs.fronts.+write_roots.Goals as goal

pub returns-then-entries-eq1-clause-root : goal.returns-then-entries-eq1-clause-root
returns-then-entries-eq1-clause-root g t c =
    let entry : c.as_slice.result.now ≡ get_or c.args.entries.now 0 c.as_slice.result.now =
    rw c.as_slice.ensures c.index-entries-0.is in
    let single : length c.args.entries.now ≡ 1 = c.if-entries-eq1.true in
    c.leaf-leaf.ensures ∙ sym (root-single _ _ (omega arith) (omega arith) entry)

pub returns-then-entries-eq1-clause-roots : goal.returns-then-entries-eq1-clause-roots
returns-then-entries-eq1-clause-roots g t c =
    let entry : c.as_slice.result.now ≡ get_or c.args.entries.now 0 c.as_slice.result.now =
    rw c.as_slice.ensures c.index-entries-0.is in
    let single : length c.args.entries.now ≡ 1 = c.if-entries-eq1.true in
    let leaf : c.leaf-leaf.result ≡ root c.args.entries.now =
    c.leaf-leaf.ensures ∙ sym (root-single _ _ (omega arith) (omega arith) entry) in
    leaf-roots _ _ _ _ _ _ single leaf c.requires.ascending c.requires.as_many c.put_leaf.ensures

pub halves-requires : goal.halves-requires
halves-requires g t c =
    let some : 0 < length c.args.counts.now = search rules in
    let entries = entries-some _ _ _ some c.requires.ascending c.requires.within in
    let several = c.if-entries-eq1.false in
    omega arith

pub split_at-requires : goal.split_at-requires
split_at-requires g t c = c.count_within.ensures.bound

pub write_roots-one-requires : goal.write_roots-one-requires
write_roots-one-requires g t c κs within =
    let lengths = halves-length _ _ _ c.halves.ensures in
    let below = lengths.below in
    let counts = low-counts _ _ _ _ _ refl c.count_within.ensures.value c.requires.ascending in (
      omega arith,
      (
        within,
        (
          omega (arith, c.requires.fits),
          (
            rw (c.split_at.ensures.front) counts.0,
            (
              rw (c.split_at.ensures.front) counts.1,
              omega (arith, c.split_at_mut-low_roots.ensures.front_len),
            ),
          ),
        ),
      ),
    )

pub write_roots-other-requires : goal.write_roots-other-requires
write_roots-other-requires g t c κs within =
    let lengths = halves-length _ _ _ c.halves.ensures in
    let some = lengths.some in
    let whole = lengths.whole in
    let counts = high-counts _ _ _ _ _ _ _ c.halves.ensures refl c.count_within.ensures.value c.requires.ascending
    c.requires.within in (
      omega arith,
      (
        within,
        (
          omega (arith, c.requires.fits),
          (
            rw (c.split_at.ensures.back) counts.0,
            (
              rw (c.split_at.ensures.back) counts.1,
              omega (
                arith,
                c.split_at_mut-low_roots.ensures.front_len,
                c.split_at_mut-low_roots.ensures.back_len,
                c.split_at.ensures.front_len,
                c.split_at.ensures.back_len,
                c.requires.as_many,
              ),
            ),
          ),
        ),
      ),
    )

pub returns-clause-root : goal.returns-clause-root
returns-clause-root g t c =
    root-over _ _ _ _ _ _ c.halves.ensures c.write_roots-one.ensures.root c.write_roots-other.ensures.root
    c.hash_step.ensures.value

pub returns-clause-roots : goal.returns-clause-roots
returns-clause-roots g t c =
    all-roots _ _ _ _ _ _ _ _ _ _ _ c.halves.ensures refl c.count_within.ensures.value c.requires.ascending
    c.requires.within c.write_roots-one.ensures.root (rw c.split_at.ensures.front at c.write_roots-one.ensures.roots)
    (rw c.split_at.ensures.back at c.write_roots-other.ensures.roots) c.put_left.ensures.roots

pub returns-clause-steps : goal.returns-clause-steps
returns-clause-steps g t c =
    let put = c.put_left.ensures.steps
    ∙ ap (λ n. c.write_roots-other.new.steps + n) (ap length c.write_roots-other.ensures.roots ∙ length-map _ _) in
    fronts_steps _ _ _ _ _ _ _ _ _ _ _ c.halves.ensures c.write_roots-one.ensures.steps c.write_roots-other.ensures.steps
    put c.hash_step.ensures.steps (omega (arith, c.split_at.ensures.front_len, c.split_at.ensures.back_len))
