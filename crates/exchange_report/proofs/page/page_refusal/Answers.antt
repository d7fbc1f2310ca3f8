-- The head gives the length of the filled page, which follows it unless the request was HEAD.
use Rattle.std.proofs.Common.{◌≡◌, ℕ, List, [], ◌++◌, length, ap, sym, ◌∙◌, append-nil, arith}
use Rattle.adapt_bytes.specs.Numeral.{numeral}
use Rattle.exchange_report.specs.Entry.{why_word}
use Rattle.exchange_report.specs.Pages.{filled, page_head}
use Rattle.exchange_report.proofs.page.page_refusal.Goals as goal

-- the head's length is that of the page that is sent
headed : (status n : ℕ) (none body page text : List ℕ) → none ≡ [] → body ≡ page → n ≡ length body → text ≡ none ++ page_head status n
    → text ≡ page_head status (length page)
headed status n none body page text nothing same long is =
    is ∙ ap (λ before. before ++ page_head status n) nothing ∙ ap (page_head status) (long ∙ ap length same)

pub returns-then-to_head : goal.returns-then-to_head
returns-then-to_head c =
    let body : c.in_ok-body.body.items ≡ filled (why_word c.args.why) (numeral 10 c.args.number) c.args.page.now =
    c.in_ok-body.ensures ∙ ap (λ w. filled w (numeral 10 c.args.number) c.args.page.now) c.word.ensures in
    let head = headed c.args.status c.len.result _ _ _ _ c.new-text.ensures.items body
    (omega (arith, c.len.ensures, c.in_ok-body.body.ok.0)) c.in_ok-write_page_head.ensures in
    rw c.if-to_head.true (head ∙ sym (append-nil _))

pub returns : goal.returns
returns c =
    let body : c.in_ok-body.body.items ≡ filled (why_word c.args.why) (numeral 10 c.args.number) c.args.page.now =
    c.in_ok-body.ensures ∙ ap (λ w. filled w (numeral 10 c.args.number) c.args.page.now) c.word.ensures in
    let head = headed c.args.status c.len.result _ _ _ _ c.new-text.ensures.items body
    (omega (arith, c.len.ensures, c.in_ok-body.body.ok.0)) c.in_ok-write_page_head.ensures in
    rw c.if-to_head.false (c.in_ok-extend_from_slice.ensures.items ∙ ap (λ h. h ++ c.as_slice.result.now) head
    ∙ ap (λ b. page_head c.args.status (length (filled (why_word c.args.why) (numeral 10 c.args.number) c.args.page.now)) ++ b)
    (c.as_slice.ensures.value ∙ body))
