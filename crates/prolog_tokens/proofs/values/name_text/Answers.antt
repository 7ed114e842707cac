use Rattle.std.proofs.Common.{subst, sym, ◌∙◌}
use Rattle.std.specs.String.{string_bytes}
use Rattle.prolog_tokens.specs.Quoted.{IsQuoted}
use Rattle.prolog_tokens.specs.Spelling.{Spells}
use Rattle.prolog_tokens.specs.Values.{NameTextBy, IsQuotedText}
use Rattle.prolog_tokens.proofs.OneToken.{single_quote}
use Rattle.prolog_tokens.proofs.Names.{quoted_text_once}
use Rattle.prolog_tokens.proofs.values.name_text.Goals as goal

pub returns-in_ok-name-in-Quoted-clause-only : goal.returns-in_ok-name-in-Quoted-clause-only
returns-in_ok-name-in-Quoted-clause-only c = λ second is.
    let text = c.args.text.now in
    let item : IsQuoted text 39 c.args.token.start c.args.token.end = subst (Spells text c.args.token.start c.args.token.end) c.in-Quoted.is c.requires.spelled.spells in
    let this : IsQuotedText text 39 c.args.token.start c.args.token.end (string_bytes c.in_ok-name-in-Quoted.name) = c.in_ok-name-in-Quoted.ensures c.args.token.end item in
    let that : IsQuotedText text 39 c.args.token.start c.args.token.end second = subst (NameTextBy text c.args.token.start c.args.token.end second) c.in-Quoted.is is in
    quoted_text_once text 39 c.args.token.start c.args.token.end second (string_bytes c.in_ok-name-in-Quoted.name) single_quote item that this ∙ sym c.from_string.ensures
