-- The error numbers of Linux (asm-generic/errno-base.h, asm-generic/errno.h) with the texts of strerror(3), and ENOTSUPP
-- of the kernel's own include/linux/errno.h.
use Rattle.std.specs.Prelude.{ℕ, List, [], ◌∷◌, ◌++◌, Option, codes, find, nat_eq}
use Rattle.std.specs.Borrow.{Bor}
use Rattle.neli_errno.specs.declared.number.Errno.{Errno}

-- a number, its name, and its meaning
abbrev pub Row : Type 0
Row = ℕ × List ℕ × List ℕ

-- a row of the code's table
abbrev pub row_view : ℕ × Bor (List ℕ) × Bor (List ℕ) → Row
row_view row = (row.0, row.1.now, row.2.now)

-- the row of an error
abbrev pub errno_view : Errno → Row
errno_view e = (e.number, e.name.now, e.meaning.now)

-- every number that has a name
unfoldable pub errnos : List Row
errnos =
    (1, codes "EPERM", codes "Operation not permitted") ∷
    (2, codes "ENOENT", codes "No such file or directory") ∷
    (3, codes "ESRCH", codes "No such process") ∷
    (4, codes "EINTR", codes "Interrupted system call") ∷
    (5, codes "EIO", codes "Input/output error") ∷
    (6, codes "ENXIO", codes "No such device or address") ∷
    (7, codes "E2BIG", codes "Argument list too long") ∷
    (8, codes "ENOEXEC", codes "Exec format error") ∷
    (9, codes "EBADF", codes "Bad file descriptor") ∷
    (10, codes "ECHILD", codes "No child processes") ∷
    (11, codes "EAGAIN", codes "Resource temporarily unavailable") ∷
    (12, codes "ENOMEM", codes "Cannot allocate memory") ∷
    (13, codes "EACCES", codes "Permission denied") ∷
    (14, codes "EFAULT", codes "Bad address") ∷
    (15, codes "ENOTBLK", codes "Block device required") ∷
    (16, codes "EBUSY", codes "Device or resource busy") ∷
    (17, codes "EEXIST", codes "File exists") ∷
    (18, codes "EXDEV", codes "Invalid cross-device link") ∷
    (19, codes "ENODEV", codes "No such device") ∷
    (20, codes "ENOTDIR", codes "Not a directory") ∷
    (21, codes "EISDIR", codes "Is a directory") ∷
    (22, codes "EINVAL", codes "Invalid argument") ∷
    (23, codes "ENFILE", codes "Too many open files in system") ∷
    (24, codes "EMFILE", codes "Too many open files") ∷
    (25, codes "ENOTTY", codes "Inappropriate ioctl for device") ∷
    (26, codes "ETXTBSY", codes "Text file busy") ∷
    (27, codes "EFBIG", codes "File too large") ∷
    (28, codes "ENOSPC", codes "No space left on device") ∷
    (29, codes "ESPIPE", codes "Illegal seek") ∷
    (30, codes "EROFS", codes "Read-only file system") ∷
    (31, codes "EMLINK", codes "Too many links") ∷
    (32, codes "EPIPE", codes "Broken pipe") ∷
    (33, codes "EDOM", codes "Numerical argument out of domain") ∷
    (34, codes "ERANGE", codes "Numerical result out of range") ∷
    (35, codes "EDEADLK", codes "Resource deadlock avoided") ∷
    (36, codes "ENAMETOOLONG", codes "File name too long") ∷
    (37, codes "ENOLCK", codes "No locks available") ∷
    (38, codes "ENOSYS", codes "Function not implemented") ∷
    (39, codes "ENOTEMPTY", codes "Directory not empty") ∷
    (40, codes "ELOOP", codes "Too many levels of symbolic links") ∷
    (42, codes "ENOMSG", codes "No message of desired type") ∷
    (43, codes "EIDRM", codes "Identifier removed") ∷
    (44, codes "ECHRNG", codes "Channel number out of range") ∷
    (45, codes "EL2NSYNC", codes "Level 2 not synchronized") ∷
    (46, codes "EL3HLT", codes "Level 3 halted") ∷
    (47, codes "EL3RST", codes "Level 3 reset") ∷
    (48, codes "ELNRNG", codes "Link number out of range") ∷
    (49, codes "EUNATCH", codes "Protocol driver not attached") ∷
    (50, codes "ENOCSI", codes "No CSI structure available") ∷
    (51, codes "EL2HLT", codes "Level 2 halted") ∷
    (52, codes "EBADE", codes "Invalid exchange") ∷
    (53, codes "EBADR", codes "Invalid request descriptor") ∷
    (54, codes "EXFULL", codes "Exchange full") ∷
    (55, codes "ENOANO", codes "No anode") ∷
    (56, codes "EBADRQC", codes "Invalid request code") ∷
    (57, codes "EBADSLT", codes "Invalid slot") ∷
    (59, codes "EBFONT", codes "Bad font file format") ∷
    (60, codes "ENOSTR", codes "Device not a stream") ∷
    (61, codes "ENODATA", codes "No data available") ∷
    (62, codes "ETIME", codes "Timer expired") ∷
    (63, codes "ENOSR", codes "Out of streams resources") ∷
    (64, codes "ENONET", codes "Machine is not on the network") ∷
    (65, codes "ENOPKG", codes "Package not installed") ∷
    (66, codes "EREMOTE", codes "Object is remote") ∷
    (67, codes "ENOLINK", codes "Link has been severed") ∷
    (68, codes "EADV", codes "Advertise error") ∷
    (69, codes "ESRMNT", codes "Srmount error") ∷
    (70, codes "ECOMM", codes "Communication error on send") ∷
    (71, codes "EPROTO", codes "Protocol error") ∷
    (72, codes "EMULTIHOP", codes "Multihop attempted") ∷
    (73, codes "EDOTDOT", codes "RFS specific error") ∷
    (74, codes "EBADMSG", codes "Bad message") ∷
    (75, codes "EOVERFLOW", codes "Value too large for defined data type") ∷
    (76, codes "ENOTUNIQ", codes "Name not unique on network") ∷
    (77, codes "EBADFD", codes "File descriptor in bad state") ∷
    (78, codes "EREMCHG", codes "Remote address changed") ∷
    (79, codes "ELIBACC", codes "Can not access a needed shared library") ∷
    (80, codes "ELIBBAD", codes "Accessing a corrupted shared library") ∷
    (81, codes "ELIBSCN", codes ".lib section in a.out corrupted") ∷
    (82, codes "ELIBMAX", codes "Attempting to link in too many shared libraries") ∷
    (83, codes "ELIBEXEC", codes "Cannot exec a shared library directly") ∷
    (84, codes "EILSEQ", codes "Invalid or incomplete multibyte or wide character") ∷
    (85, codes "ERESTART", codes "Interrupted system call should be restarted") ∷
    (86, codes "ESTRPIPE", codes "Streams pipe error") ∷
    (87, codes "EUSERS", codes "Too many users") ∷
    (88, codes "ENOTSOCK", codes "Socket operation on non-socket") ∷
    (89, codes "EDESTADDRREQ", codes "Destination address required") ∷
    (90, codes "EMSGSIZE", codes "Message too long") ∷
    (91, codes "EPROTOTYPE", codes "Protocol wrong type for socket") ∷
    (92, codes "ENOPROTOOPT", codes "Protocol not available") ∷
    (93, codes "EPROTONOSUPPORT", codes "Protocol not supported") ∷
    (94, codes "ESOCKTNOSUPPORT", codes "Socket type not supported") ∷
    (95, codes "EOPNOTSUPP", codes "Operation not supported") ∷
    (96, codes "EPFNOSUPPORT", codes "Protocol family not supported") ∷
    (97, codes "EAFNOSUPPORT", codes "Address family not supported by protocol") ∷
    (98, codes "EADDRINUSE", codes "Address already in use") ∷
    (99, codes "EADDRNOTAVAIL", codes "Cannot assign requested address") ∷
    (100, codes "ENETDOWN", codes "Network is down") ∷
    (101, codes "ENETUNREACH", codes "Network is unreachable") ∷
    (102, codes "ENETRESET", codes "Network dropped connection on reset") ∷
    (103, codes "ECONNABORTED", codes "Software caused connection abort") ∷
    (104, codes "ECONNRESET", codes "Connection reset by peer") ∷
    (105, codes "ENOBUFS", codes "No buffer space available") ∷
    (106, codes "EISCONN", codes "Transport endpoint is already connected") ∷
    (107, codes "ENOTCONN", codes "Transport endpoint is not connected") ∷
    (108, codes "ESHUTDOWN", codes "Cannot send after transport endpoint shutdown") ∷
    (109, codes "ETOOMANYREFS", codes "Too many references: cannot splice") ∷
    (110, codes "ETIMEDOUT", codes "Connection timed out") ∷
    (111, codes "ECONNREFUSED", codes "Connection refused") ∷
    (112, codes "EHOSTDOWN", codes "Host is down") ∷
    (113, codes "EHOSTUNREACH", codes "No route to host") ∷
    (114, codes "EALREADY", codes "Operation already in progress") ∷
    (115, codes "EINPROGRESS", codes "Operation now in progress") ∷
    (116, codes "ESTALE", codes "Stale file handle") ∷
    (117, codes "EUCLEAN", codes "Structure needs cleaning") ∷
    (118, codes "ENOTNAM", codes "Not a XENIX named type file") ∷
    (119, codes "ENAVAIL", codes "No XENIX semaphores available") ∷
    (120, codes "EISNAM", codes "Is a named type file") ∷
    (121, codes "EREMOTEIO", codes "Remote I/O error") ∷
    (122, codes "EDQUOT", codes "Disk quota exceeded") ∷
    (123, codes "ENOMEDIUM", codes "No medium found") ∷
    (124, codes "EMEDIUMTYPE", codes "Wrong medium type") ∷
    (125, codes "ECANCELED", codes "Operation canceled") ∷
    (126, codes "ENOKEY", codes "Required key not available") ∷
    (127, codes "EKEYEXPIRED", codes "Key has expired") ∷
    (128, codes "EKEYREVOKED", codes "Key has been revoked") ∷
    (129, codes "EKEYREJECTED", codes "Key was rejected by service") ∷
    (130, codes "EOWNERDEAD", codes "Owner died") ∷
    (131, codes "ENOTRECOVERABLE", codes "State not recoverable") ∷
    (132, codes "ERFKILL", codes "Operation not possible due to RF-kill") ∷
    (133, codes "EHWPOISON", codes "Memory page has hardware error") ∷
    (524, codes "ENOTSUPP", codes "Operation is not supported") ∷
    []

-- the row of a number, where it has one
abbrev pub errno_of : ℕ → Option Row
errno_of number = find (λ row. nat_eq row.0 number) errnos

-- the text of a row
abbrev pub errno_text : Row → List ℕ
errno_text row = row.1 ++ codes ": " ++ row.2
