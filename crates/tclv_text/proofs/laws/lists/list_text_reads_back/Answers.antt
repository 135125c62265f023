use Rattle.tclv_text.specs.Quotes.{list_text}
use Rattle.tclv_text.proofs.QuoteLemmas.{list_text_reads}
use Rattle.tclv_text.proofs.ListCases.{list_by_cases}
use Rattle.tclv_text.proofs.laws.lists.list_text_reads_back.Goals as goal

pub returns : goal.returns
returns c = record { elements = list_text_reads; list = λ ts. list_by_cases ts (list_text ts) (list_text_reads ts) }
