use Rattle.std.proofs.Common.{◌≡◌, ℕ, List, ◌++◌, length, drop, replicate, sym, ap, subst, rules}
use Rattle.clauses.specs.Books.{clauses_of}
use Rattle.search.specs.Completions.{Allowed}
use Rattle.seeking.specs.Seeking.{Unknown}
use Rattle.seeking.specs.Choosing.{Clashed}
use Rattle.seeking.specs.Including.{Core}
use Rattle.seeking.proofs.Fitting.{speaks_of}
use Rattle.seeking.proofs.Raising.{unknown_filled}
use Rattle.seeking.proofs.Shrinking.{first_ticked, past_first, clashed_first, core_at, core_before}
use Rattle.seeking.proofs.including.seek_including.Goals as goal

pub returns-clause-answer : goal.returns-clause-answer
returns-clause-answer g c =
    let a = c.args.assumed.now in
    let n = length c.args.found.now in
    let t : List ℕ = c.fill.new.self ++ drop (length a) c.args.ticks.now in
    let ones : c.fill.new.self ≡ replicate (length a) 1 = search rules in
    let all = first_ticked (length a) c.fill.new.self c.args.ticks.now ones in
    let past = past_first (length a) c.fill.new.self c.args.ticks.now ones in
    let filled : c.fill-2.new.self ≡ replicate n 2 = search rules in
    let P = Allowed (clauses_of c.args.book.now) (g.V.Veto.means c.args.veto.now).speaks in
    let clashed : Clashed P n a c.untick.new.ticks = clashed_first _ n a c.args.ticks.now t all past _ c.untick.new.ticks c.include.new.reason c.untick.ensures c.if-include.ensures.included in
    let minimal : Clashed P n a c.untick.new.ticks → Core P n a c.untick.new.ticks c.minimize.new.ticks = core_at (ap speaks_of c.include.ensures.meaning) c.include.auto.found c.minimize.ensures.core in
    (core_before P n a c.args.ticks.now t all past c.untick.new.ticks _ c.include.new.reason c.untick.ensures (minimal clashed), subst Unknown (sym filled) (unknown_filled n))
