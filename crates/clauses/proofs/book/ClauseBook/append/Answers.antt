use Rattle.std.proofs.Common.{length, ap}
use Rattle.clauses.proofs.Fronts.{literals_grow, stretches_grow, still_ranged, still_whole, one_more}
use Rattle.clauses.proofs.book.ClauseBook.append.Goals as goal

pub invariant_of-self : goal.invariant_of-self
invariant_of-self c =
    let b = c.args.self.now in
    let new = c.args.clause.now in
    let free = c.requires in
    let ls = literals_grow b new free _ _ c.extend.ensures.value c.extend.ensures.items in
    let ss = stretches_grow b new free _ _ _ c.push.ensures.value (ap length c.as_slice-start.ensures) c.push.ensures.items in
    record { few = b.few; ranged = still_ranged b new free _ _ ls ss; whole = still_whole b new free _ _ ls ss }

pub returns-clause-clauses : goal.returns-clause-clauses
returns-clause-clauses c =
    let b = c.args.self.now in
    let new = c.args.clause.now in
    let free = c.requires in
    let ls = literals_grow b new free _ _ c.extend.ensures.value c.extend.ensures.items in
    let ss = stretches_grow b new free _ _ _ c.push.ensures.value (ap length c.as_slice-start.ensures) c.push.ensures.items in
    one_more b new free _ _ ls ss
