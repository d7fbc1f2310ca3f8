-- What is put is the layout's text, which is read back as its parts, and so as no other layout.
use Rattle.std.proofs.Common.{◌≡◌, ◌++◌, subst, sym, rules, ◌∙◌}
use Rattle.encapsulated.specs.declared.parts.Part.TheVariants.{ReqHdr, ResHdr, Body}
use Rattle.encapsulated.specs.Grammar.{AreParts}
use Rattle.encapsulated.specs.Layouts.{parts_of, item_text}
use Rattle.encapsulated.specs.Order.{head_text}
use Rattle.encapsulated.proofs.WriteBack.{written_is, reads_back}
use Rattle.encapsulated.proofs.OneAnswer.{layout_unique, parts_unique}
use Rattle.encapsulated.proofs.writer.write.Goals as goal

pub returns-clause-text : goal.returns-clause-text
returns-clause-text c =
    let l = c.args.layout.now in
    let text : c.put_item.new.out.items ≡ head_text ReqHdr l.req_hdr ++ head_text ResHdr l.res_hdr ++ item_text (Body l.body, l.offset) =
    search rules in
    text ∙ sym (written_is l)

pub returns-clause-again : goal.returns-clause-again
returns-clause-again c = λ method direction may.
    record {
      parts = subst (λ t. AreParts t (parts_of c.args.layout.now)) (sym (returns-clause-text c))
          (reads_back c.args.layout.now c.in_ok-put_head.ensures.fits c.in_ok-put_head-2.ensures.fits c.in_ok-put_item.ensures.fits);
      may = may;
    }

pub returns-clause-only : goal.returns-clause-only
returns-clause-only c = λ method direction other is.
    let parts = subst (λ t. AreParts t (parts_of c.args.layout.now)) (sym (returns-clause-text c))
    (reads_back c.args.layout.now c.in_ok-put_head.ensures.fits c.in_ok-put_head-2.ensures.fits c.in_ok-put_item.ensures.fits) in
    layout_unique other c.args.layout.now (parts_unique _ _ _ is.parts parts)
