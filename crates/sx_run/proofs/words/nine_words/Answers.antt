use Rattle.std.proofs.Common.{sym, ◌∙◌, arith}
use Rattle.sx_run.proofs.NineWords.{nine_words}
use Rattle.sx_run.proofs.words.nine_words.Goals as goal

pub returns-clause-words : goal.returns-clause-words
returns-clause-words c = record {
  name = c.as_bytes.result.now;
  key = c.as_bytes-2.result.now;
  are = nine_words c.args.words.now c.index-words-0.result c.index-words-1.result c.index-words-2.result c.index-words-3.result c.index-words-4.result c.index-words-5.result c.index-words-6.result c.index-words-7.result c.index-words-8.result
      c.requires c.index-words-0.is c.index-words-1.is c.index-words-2.is c.index-words-3.is c.index-words-4.is c.index-words-5.is c.index-words-6.is c.index-words-7.is c.index-words-8.is
      _ _ _ _ _ _ _ _ _
      (sym c.as_str.ensures.value ∙ c.is_serve.ensures.yes c.if-not-is_serve.false)
      (sym c.as_str-2.ensures.value ∙ c.in_ok-rest_port.ensures.port.0)
      (sym c.as_str-3.ensures.value ∙ c.in_ok-smb_port.ensures.port.0)
      (sym c.as_str-4.ensures.value ∙ c.in_ok-rest_workers.ensures.count.0)
      (sym c.as_str-5.ensures.value ∙ c.in_ok-smb_workers.ensures.count.0)
      (sym c.as_str-6.ensures.value ∙ c.in_ok-conns.ensures.count.0)
      (sym c.as_str-7.ensures.value ∙ c.in_ok-limit.ensures.count.0)
      (sym c.as_bytes.ensures.value) (sym c.as_bytes-2.ensures.value);
  rest = (c.in_ok-rest_workers.ensures.count.1, c.in_ok-rest_workers.ensures.count.2);
  smb = (c.in_ok-smb_workers.ensures.count.1, c.in_ok-smb_workers.ensures.count.2);
  ports = (c.in_ok-rest_port.ensures.port.1, c.in_ok-smb_port.ensures.port.1);
  conns = omega (arith, c.in_ok-conns.ensures.count.2);
  limit = (c.in_ok-limit.ensures.count.1, omega (arith, c.in_ok-limit.ensures.count.2));
  account = c.in_ok-account.ensures.account;
}
