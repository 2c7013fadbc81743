use Rattle.image_text.specs.Written.{head_lines, item_lines}
use Rattle.image_text.proofs.WriteLemmas.{ok_by, lines_more}
use Rattle.image_text.proofs.image.put_image.Goals as goal

pub returns : goal.returns
returns c =
    ok_by c.put_items.result _ _ c.put_items.ensures
    (λ h. lines_more c.args.out.now.items (head_lines c.args.image.now) (item_lines c.args.image.now) _ _ c.in_ok-put_head.ensures h)
