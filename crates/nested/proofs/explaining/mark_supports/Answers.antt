use Rattle.std.proofs.Common.{◌≡◌, ◌+◌, [], drop, sym, ◌∙◌}
use Rattle.tables.specs.Items.{entries}
use Rattle.clauses.specs.Books.{clauses_of}
use Rattle.clauses.specs.Listing.{left}
use Rattle.propagation.proofs.Listed.{first_left}
use Rattle.nested.proofs.Marking.{supported_none, supported_some, all_backed, grows_on}
use Rattle.nested.proofs.explaining.mark_supports.Goals as goal

pub loop-clause-preserved-in-Some-support : goal.loop-clause-preserved-in-Some-support
loop-clause-preserved-in-Some-support c =
    let s = c.args.shape.now in
    let cs = clauses_of s.book in
    let p = c.args.reason.now.assignment.now in
    let now = c.loop-clause.reason in
    let so = c.loop-clause.invariant in
    let n = so.done.0 in
    let t = first_left cs n [] c.in-Some.clause.now (left c.next.new.self) (sym so.done.1 ∙ c.in-Some.ensures.steps) in
    record {
      of = c.mark.ensures.of ∙ so.of;
      grows = grows_on _ now.marks _ _ _ c.mark.ensures.marks so.grows;
      done = (n + 1, sym t.2, supported_some p (entries s.map) c.args.values.now cs n c.in-Some-support.atom now.marks _ _ _ _ c.as_slice-map.ensures so.of t.1 c.mark.ensures.marks now.known.long c.in-Some-support.ensures so.done.2);
    }

pub loop-clause-preserved : goal.loop-clause-preserved
loop-clause-preserved c =
    let s = c.args.shape.now in
    let cs = clauses_of s.book in
    let p = c.args.reason.now.assignment.now in
    let so = c.loop-clause.invariant in
    let n = so.done.0 in
    let t = first_left cs n [] c.in-Some.clause.now (left c.next.new.self) (sym so.done.1 ∙ c.in-Some.ensures.steps) in
    record {
      of = so.of;
      grows = so.grows;
      done = (n + 1, sym t.2, supported_none p (entries s.map) c.args.values.now cs n _ _ _ c.as_slice-map.ensures t.1 c.in_default.ensures so.done.2);
    }

pub returns-clause-marks : goal.returns-clause-marks
returns-clause-marks c =
    let s = c.args.shape.now in
    let cs = clauses_of s.book in
    let so = c.loop-clause.invariant in
    let n = so.done.0 in
    let e : drop n cs ≡ [] = sym so.done.1 ∙ c.in-None.ensures.steps.0 in
    record { grows = so.grows; each = all_backed c.args.reason.now.assignment.now (entries s.map) c.args.values.now cs n _ e so.done.2 }
