use Rattle.std.proofs.Common.{◌≡◌, w32, to_z, of_z, rules}
use Rattle.lexer.proofs.Scanning.{ends, ends_rest, token_rest, number_is, word_is}
use Rattle.lexer.proofs.reader.Reader.next_token.Goals as goal

pub returns-then-start-end-clause-token : goal.returns-then-start-end-clause-token
returns-then-start-end-clause-token c = ends c.args.self.now.text.now c.args.self.now.end c.args.self.now.cursor.place c.skip_spaces-start.result c.until-end.result c.skip_spaces-start.ensures.value c.until-end.ensures.value c.if-start-end.true

pub returns-then-start-end-clause-rest : goal.returns-then-start-end-clause-rest
returns-then-start-end-clause-rest c = ends_rest c.args.self.now.text.now c.args.self.now.end c.args.self.now.cursor.place c.skip_spaces-start.result c.until-end.result c.skip_spaces-start.ensures.value c.until-end.ensures.value c.if-start-end.true

pub returns-in-None-clause-token : goal.returns-in-None-clause-token
returns-in-None-clause-token c = word_is c.args.self.now.text.now c.args.self.now.end c.args.self.now.cursor.place c.skip_spaces-start.result c.until-end.result c.skip_spaces-start.ensures.value c.until-end.ensures.value c.if-start-end.false c.number.result c.number.ensures c.in-None.is

pub returns-in-None-clause-rest : goal.returns-in-None-clause-rest
returns-in-None-clause-rest c = token_rest c.args.self.now.text.now c.args.self.now.end c.args.self.now.cursor.place c.skip_spaces-start.result c.until-end.result c.skip_spaces-start.ensures.value c.until-end.ensures.value c.if-start-end.false

pub returns-in-Some-clause-token : goal.returns-in-Some-clause-token
returns-in-Some-clause-token c =
    let back : to_z w32 (of_z w32 c.in-Some.value) ≡ c.in-Some.value = search rules in
    number_is c.args.self.now.text.now c.args.self.now.end c.args.self.now.cursor.place c.skip_spaces-start.result c.until-end.result c.skip_spaces-start.ensures.value c.until-end.ensures.value c.if-start-end.false c.number.result c.in-Some.value _ c.number.ensures c.in-Some.is back

pub returns-in-Some-clause-rest : goal.returns-in-Some-clause-rest
returns-in-Some-clause-rest c = token_rest c.args.self.now.text.now c.args.self.now.end c.args.self.now.cursor.place c.skip_spaces-start.result c.until-end.result c.skip_spaces-start.ensures.value c.until-end.ensures.value c.if-start-end.false
