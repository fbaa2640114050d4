-- The counters of a link: `struct rtnl_link_stats64` of linux/if_link.h.
use Rattle.std.specs.Prelude.{ℕ, ◌+◌, List, length, nat_le, if◌then◌else◌}
use Rattle.neli_wire.specs.Frames.{number_in}
use Rattle.neli_payloads.specs.declared.link_stats64.LinkStats64.{LinkStats64}

-- the number of the eight bytes from a place on; 0 if they are not all there
abbrev pub count_at : ℕ → List ℕ → ℕ
count_at place s = if nat_le (place + 8) (length s) then number_in 8 place s else 0

-- the fields by their places, of as many bytes as there are
unfoldable pub link_stats64_of : List ℕ → LinkStats64
link_stats64_of s = record {
  rx_packets = count_at 0 s;
  tx_packets = count_at 8 s;
  rx_bytes = count_at 16 s;
  tx_bytes = count_at 24 s;
  rx_errors = count_at 32 s;
  tx_errors = count_at 40 s;
  rx_dropped = count_at 48 s;
  tx_dropped = count_at 56 s;
  multicast = count_at 64 s;
  collisions = count_at 72 s;
  rx_length_errors = count_at 80 s;
  rx_over_errors = count_at 88 s;
  rx_crc_errors = count_at 96 s;
  rx_frame_errors = count_at 104 s;
  rx_fifo_errors = count_at 112 s;
  rx_missed_errors = count_at 120 s;
  tx_aborted_errors = count_at 128 s;
  tx_carrier_errors = count_at 136 s;
  tx_fifo_errors = count_at 144 s;
  tx_heartbeat_errors = count_at 152 s;
  tx_window_errors = count_at 160 s;
  rx_compressed = count_at 168 s;
  tx_compressed = count_at 176 s;
  rx_nohandler = count_at 184 s;
  rx_otherhost_dropped = count_at 192 s;
}
