use Rattle.std.proofs.Common.{◌≡◌, ◌<◌, true, false, length, ap, ◌∙◌, rules}
use Rattle.clauses.specs.Books.{clauses_of}
use Rattle.seeking.proofs.Fitting.{speaks_of}
use Rattle.seeking.proofs.Shrinking.{shrunk_left, shrunk_kept, core, narrowed_at}
use Rattle.seeking.proofs.cores.minimize.Goals.{then-not-narrow, else-not-narrow}
use Rattle.seeking.proofs.cores.minimize.Goals as goal

pub returns-clause-core : goal.returns-clause-core
returns-clause-core g c clash = core _ (length c.args.work.now) c.args.assumed.now c.args.ticks.now c.loop-index.ticks c.loop-index.index c.loop-index-test.false (c.loop-index.invariant.shrunk clash)

pub loop-index-preserved : goal.loop-index-preserved
loop-index-preserved g c = record {
  meaning = c.narrow.ensures.meaning ∙ c.loop-index.invariant.meaning;
  shrunk = λ clash.
      let s = c.loop-index.invariant.shrunk clash in
      let n = length c.args.work.now in
      let ls = c.args.assumed.now in
      let t = c.loop-index.ticks in
      let i = c.loop-index.index in
      let inside : i < length t = search rules in
      let work : length c.loop-index.work ≡ n = search rules in
      let means = ap speaks_of c.loop-index.invariant.meaning in
      elim c.if-not-narrow.branch [
        | then-not-narrow w ↦
            let x = narrowed_at (clauses_of c.args.book.now) _ _ _ n ls _ _ false means work w.if-not-narrow.ensures.narrowed in
            rw w.ticks-is (shrunk_kept _ n ls c.args.ticks.now t i s c.loop-index-test.true inside c.if-ticks-index-ne1.false x.0.0 _ x.0.1 x.1)
        | else-not-narrow w ↦
            let x = narrowed_at (clauses_of c.args.book.now) _ _ _ n ls _ _ true means work w.if-not-narrow.ensures.narrowed in
            rw w.ticks-is (shrunk_left _ n ls c.args.ticks.now t i s c.loop-index-test.true inside c.if-ticks-index-ne1.false _ x.0 x.1)
      ];
}
