use Rattle.tclv_text.proofs.ListsLifted.{split_spans, split_order, split_elements, split_cases, split_fault}
use Rattle.tclv_text.proofs.lists.split_list.Goals as goal

pub returns : goal.returns
returns c =
    let t = c.args.text.now in
    let h = c.split_bytes.ensures in
    record {
      spans = split_spans t c.split_bytes.result c.requires h;
      order = split_order t c.split_bytes.result h;
      list = split_cases t c.split_bytes.result c.requires h;
      elements = split_elements t c.split_bytes.result c.requires h;
      fault = split_fault t c.split_bytes.result c.requires h;
    }
