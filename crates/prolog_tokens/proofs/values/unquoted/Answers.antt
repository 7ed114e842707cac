use Rattle.std.proofs.Common.{◌≡◌, ◌++◌, Some, None, append-nil, refl, ap, sym, ◌∙◌, rules}
use Rattle.std.specs.Char.{encode_utf8}
use Rattle.std.specs.String.{string_bytes}
use Rattle.std.proofs.lemmas.Slice.{pushed}
use Rattle.prolog_tokens.specs.Quoted.{NoPart}
use Rattle.prolog_tokens.specs.Values.{IsMeant}
use Rattle.prolog_tokens.proofs.Parts.{ArePlain, quote_sign}
use Rattle.prolog_tokens.proofs.Names.{IsUnquoted, character_bytes, unquoted_none, unquoted_run, unquoted_meant, unquoted_all}
use Rattle.prolog_tokens.proofs.values.unquoted.Goals as goal

pub loop-name-init : goal.loop-name-init
loop-name-init c =
    rw c.new-name.ensures.bytes (unquoted_none c.args.text.now c.args.quote c.args.start c.utf8.text (quote_sign c.args.quote c.requires.quote).ascii (quote_sign c.args.quote c.requires.quote).some c.requires.quoted.1.opens)

pub returns-in-None : goal.returns-in-None
returns-in-None c =
    let text = c.args.text.now in
    let next = c.plain_end-next.result in
    let are : ArePlain c.as_bytes-bytes.result.now c.args.quote c.loop-name.at next =
    record { from = c.plain_end-next.ensures.from; within = c.plain_end-next.ensures.within; no_quote = c.plain_end-next.ensures.no_quote; no_backslash = c.plain_end-next.ensures.no_backslash } in
    let read : IsUnquoted text c.args.quote c.args.start next (string_bytes c.push_str.new.self) =
    unquoted_run text c.as_bytes-bytes.result.now c.args.quote c.args.start c.loop-name.at next (string_bytes c.loop-name.name) c.range.result.now (string_bytes c.push_str.new.self)
    c.as_bytes-bytes.ensures.value c.requires.quote c.loop-name.invariant are c.plain_end-next.ensures.stops c.range.ensures.value (pushed c.range.result.now refl c.in_ok-push_str.was c.push_str.ensures.bytes) in
    let none : NoPart text c.args.quote next = rw c.as_bytes-bytes.ensures.value at c.in-None.ensures in
    unquoted_all text c.args.quote c.args.start next (string_bytes c.push_str.new.self) c.requires.quote read none

pub loop-name-preserved-in-Some-Some : goal.loop-name-preserved-in-Some-Some
loop-name-preserved-in-Some-Some c =
    let text = c.args.text.now in
    let next = c.plain_end-next.result in
    let are : ArePlain c.as_bytes-bytes.result.now c.args.quote c.loop-name.at next =
    record { from = c.plain_end-next.ensures.from; within = c.plain_end-next.ensures.within; no_quote = c.plain_end-next.ensures.no_quote; no_backslash = c.plain_end-next.ensures.no_backslash } in
    let read : IsUnquoted text c.args.quote c.args.start next (string_bytes c.push_str.new.self) =
    unquoted_run text c.as_bytes-bytes.result.now c.args.quote c.args.start c.loop-name.at next (string_bytes c.loop-name.name) c.range.result.now (string_bytes c.push_str.new.self)
    c.as_bytes-bytes.ensures.value c.requires.quote c.loop-name.invariant are c.plain_end-next.ensures.stops c.range.ensures.value (pushed c.range.result.now refl c.in_ok-push_str.was c.push_str.ensures.bytes) in
    let is : c.in-Some-Some.field-0.code ≡ Some c.in-Some-Some.character = search rules in
    let bytes : string_bytes c.push.new.self ≡ string_bytes c.push_str.new.self ++ character_bytes c.in-Some-Some.field-0.code =
    pushed (encode_utf8 c.in-Some-Some.character) refl c.in_ok-push-in-Some-Some.was c.push.ensures.bytes ∙ ap (λ x. string_bytes c.push_str.new.self ++ character_bytes x) (sym is) in
    let meant : IsMeant text c.args.quote next c.in-Some-Some.field-0.code c.in-Some-Some.field-0.end = rw c.as_bytes-bytes.ensures.value at c.in-Some-Some.ensures in
    unquoted_meant text c.args.quote c.args.start next c.in-Some-Some.field-0.end (string_bytes c.push_str.new.self) (string_bytes c.push.new.self) c.in-Some-Some.field-0.code c.utf8.text c.requires.quote read meant bytes

pub loop-name-preserved : goal.loop-name-preserved
loop-name-preserved c =
    let text = c.args.text.now in
    let next = c.plain_end-next.result in
    let are : ArePlain c.as_bytes-bytes.result.now c.args.quote c.loop-name.at next =
    record { from = c.plain_end-next.ensures.from; within = c.plain_end-next.ensures.within; no_quote = c.plain_end-next.ensures.no_quote; no_backslash = c.plain_end-next.ensures.no_backslash } in
    let read : IsUnquoted text c.args.quote c.args.start next (string_bytes c.push_str.new.self) =
    unquoted_run text c.as_bytes-bytes.result.now c.args.quote c.args.start c.loop-name.at next (string_bytes c.loop-name.name) c.range.result.now (string_bytes c.push_str.new.self)
    c.as_bytes-bytes.ensures.value c.requires.quote c.loop-name.invariant are c.plain_end-next.ensures.stops c.range.ensures.value (pushed c.range.result.now refl c.in_ok-push_str.was c.push_str.ensures.bytes) in
    let is : c.in-Some-None.field-0.code ≡ None = search rules in
    let bytes : string_bytes c.push_str.new.self ≡ string_bytes c.push_str.new.self ++ character_bytes c.in-Some-None.field-0.code =
    sym (append-nil (string_bytes c.push_str.new.self)) ∙ ap (λ x. string_bytes c.push_str.new.self ++ character_bytes x) (sym is) in
    let meant : IsMeant text c.args.quote next c.in-Some-None.field-0.code c.in-Some-None.field-0.end = rw c.as_bytes-bytes.ensures.value at c.in-Some-None.ensures in
    unquoted_meant text c.args.quote c.args.start next c.in-Some-None.field-0.end (string_bytes c.push_str.new.self) (string_bytes c.push_str.new.self) c.in-Some-None.field-0.code c.utf8.text c.requires.quote read meant bytes
