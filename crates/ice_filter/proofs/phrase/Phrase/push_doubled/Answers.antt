use Rattle.std.proofs.Common.{Some, ◌∙◌, rules}
use Rattle.std.proofs.lemmas.Str.Pattern.{split_parts}
use Rattle.ice_filter.proofs.Pieced.{quote_on, quotes_end, on_ok}
use Rattle.ice_filter.proofs.phrase.Phrase.push_doubled.Goals as goal

pub quotes-preserved : goal.quotes-preserved
quotes-preserved c =
    let parts = split_parts c.args.quote c.quotes.rest.now (Some (c.in-Some.before, c.in-Some.after))
    c.in-Some.ensures.cases c.requires in (
      search rules,
      quote_on c.args.quote c.quotes.self c.push_str.new.self c.push_quote.new.self
          c.push_quote-in-Some.new.self c.args.self.now c.quotes.rest.now c.in-Some.before.now c.in-Some.after.now
          c.args.text.now parts.0 parts.1 c.in_ok-push_str.ensures c.in_ok-push_quote.ensures
          c.in_ok-push_quote-2.ensures
          c.quotes.invariant.1,
    )

pub returns : goal.returns
returns c =
    let parts = split_parts c.args.quote c.quotes.rest.now c.split_once.result c.split_once.ensures.cases c.requires in
    on_ok c.push_str-2.result (λ h. h ∙ quotes_end c.args.quote c.quotes.self c.args.self.now c.quotes.rest.now
    c.args.text.now (rw c.in_default.is at parts) c.quotes.invariant.1) c.push_str-2.ensures
